use Rattle.std.proofs.Common.{◌≡◌, ◌<◌, ◌+◌, ◌∙◌, List, length, get_or, ap, sym, arith}
use Rattle.std.proofs.lemmas.List.{length-map}
use Rattle.std.proofs.lemmas.List.Sums.{count_by_more_yes, count_by_more_no}
use Rattle.qm_kinds.specs.declared.entry.Entry.{Entry}
use Rattle.qm_model.specs.Merging.{moved_to, waits_in}
use Rattle.qm_tables.specs.Boxed.{contents}
use Rattle.qm_tables.proofs.Boxes.{value_of, contents_more, read_unchanged}
use Rattle.qm_tables.proofs.entries.sweep.merge.Goals as goal
use Rattle.qm_tables.proofs.entries.sweep.merge.Goals.{then-merge_one, else-merge_one}

pub loop-entry-preserved : goal.loop-entry-preserved
loop-entry-preserved c =
    let change = moved_to c.args.to.now c.args.from.now in
    let waits = waits_in c.args.from.now in
    let es : List Entry = contents c.args.boxes.now in
    let i = c.loop-entry.entry-index in
    let e : Entry = c.as_mut.result.now in
    let is : e ≡ c.entry-item.result.value = c.as_mut.ensures.value ∙ ap value_of (sym c.entry-item.is) in
    let there : get_or es i e ≡ e =
    read_unchanged c.loop-entry.boxes change c.args.boxes.now i c.entry-item.result e c.loop-entry-test.true c.loop-entry.auto.boxes c.loop-entry.invariant.homes c.entry-item.is is in
    let within : i < length es = omega (arith, c.loop-entry-test.true, length-map c.args.boxes.now value_of) in
    let answer : waits (get_or es i e) ≡ c.merge_one.result = ap waits there ∙ sym c.merge_one.ensures.waits in
    record {
      homes = contents_more c.loop-entry.boxes change c.args.boxes.now i c.entry-item.result e c.merge_one.new.entry c.loop-entry-test.true c.loop-entry.auto.boxes c.loop-entry.invariant.homes c.entry-item.is is c.merge_one.ensures.entry;
      moved = elim c.if-merge_one.branch [
        | then-merge_one w ↦ w.moved-is ∙ ap (λ n. n + 1) c.loop-entry.invariant.moved ∙ sym (count_by_more_yes waits es i e within (answer ∙ w.if-merge_one.true))
        | else-merge_one w ↦ w.moved-is ∙ c.loop-entry.invariant.moved ∙ sym (count_by_more_no waits es i e within (answer ∙ w.if-merge_one.false))
      ];
    }
