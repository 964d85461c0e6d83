use Rattle.std.proofs.Common.{◌≡◌, ◌∙◌, ◌<◌, ◌&&◌, if◌then◌else◌, List, [], ◌∷◌, ◌++◌, length, get_or, ap, arith}
use Rattle.std.proofs.lemmas.List.{length-map}
use Rattle.qm_model.specs.Common.{Entry, Row}
use Rattle.qm_tables.specs.Boxed.{contents}
use Rattle.qm_kinds.specs.declared.query.Row.TheVariants as row
use Rattle.qm_scan.specs.Listed.{is_below, is_queue_listed, rows_of_queue}
use Rattle.qm_scan.proofs.Boxed.{value_at, value_within, all_seen}
use Rattle.qm_scan.proofs.Put.{mapped_at, queue_more}
use Rattle.qm_scan.proofs.below.groups_of.Goals as goal

pub loop-boxed-init : goal.loop-boxed-init
loop-boxed-init c = record {
  count = rw c.in_ok-groups.ensures (length-map c.args.queues.now (rows_of_queue c.args.query.now []));
  below = λ k queue there. mapped_at (rows_of_queue c.args.query.now []) c.args.queues.now c.in_ok-groups.groups.items c.in_ok-groups.ensures k queue [] there;
}

pub loop-boxed-preserved : goal.loop-boxed-preserved
loop-boxed-preserved c = record {
  count = c.put_below.ensures.count;
  below = λ k queue there.
      c.in_ok-put_below.ensures.put k queue there
      ∙ ap (λ (rows : List Row). rows ++ (if is_queue_listed c.args.query.now queue && is_below c.args.query.now queue c.as_ref.result.now then row.Entry c.as_ref.result.now ∷ [] else [])) (c.loop-boxed.invariant.below k queue there)
      ∙ queue_more (row.Queue queue) (λ e. row.Entry e) (is_below c.args.query.now queue) (is_queue_listed c.args.query.now queue) (contents c.args.entries.now) c.loop-boxed.boxed-index c.as_ref.result.now within is;
}
  where
    is : c.as_ref.result.now ≡ get_or (contents c.args.entries.now) c.loop-boxed.boxed-index c.as_ref.result.now
    is = value_at c.args.entries.now c.loop-boxed.boxed-index c.boxed-item.result c.as_ref.result.now c.loop-boxed-test.true c.boxed-item.is c.as_ref.ensures

    within : c.loop-boxed.boxed-index < length (contents c.args.entries.now)
    within = value_within c.args.entries.now c.loop-boxed.boxed-index c.boxed-item.result c.as_ref.result.now c.loop-boxed-test.true c.boxed-item.is c.as_ref.ensures

pub returns-clause-below : goal.returns-clause-below
returns-clause-below c = λ k queue there.
    c.loop-boxed.invariant.below k queue there
    ∙ ap (λ (es : List Entry). rows_of_queue c.args.query.now es queue)
    (all_seen (contents c.args.entries.now) c.loop-boxed.boxed-index (omega (arith, c.loop-boxed-test.false, length-map c.args.entries.now (λ b. b.value))))
