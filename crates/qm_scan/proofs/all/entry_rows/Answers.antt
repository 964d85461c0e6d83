use Rattle.std.proofs.Common.{◌∙◌, List, [], ◌∷◌, ◌++◌, if◌then◌else◌, ap}
use Rattle.qm_tables.specs.Boxed.{contents}
use Rattle.qm_kinds.specs.declared.query.Row.{Row}
use Rattle.qm_kinds.specs.declared.query.Row.TheVariants as row
use Rattle.qm_scan.specs.Listed.{is_entry_listed}
use Rattle.qm_scan.proofs.Boxed.{value_at, value_within}
use Rattle.qm_scan.proofs.Put.{row_more}
use Rattle.qm_scan.proofs.all.entry_rows.Goals as goal

pub loop-boxed-preserved : goal.loop-boxed-preserved
loop-boxed-preserved c =
    let is = value_at c.args.entries.now c.loop-boxed.boxed-index c.boxed-item.result c.as_ref.result.now c.loop-boxed-test.true c.boxed-item.is c.as_ref.ensures in
    let within = value_within c.args.entries.now c.loop-boxed.boxed-index c.boxed-item.result c.as_ref.result.now c.loop-boxed-test.true c.boxed-item.is c.as_ref.ensures in
    c.in_ok-push_listed.ensures
    ∙ ap (λ (rows : List Row). rows ++ (if is_entry_listed c.args.query.now c.args.queue.now c.as_ref.result.now then row.Entry c.as_ref.result.now ∷ [] else [])) c.loop-boxed.invariant
    ∙ row_more (λ e. row.Entry e) (is_entry_listed c.args.query.now c.args.queue.now) (contents c.args.entries.now) c.loop-boxed.boxed-index c.as_ref.result.now within is
