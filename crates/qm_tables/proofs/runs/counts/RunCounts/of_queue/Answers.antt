use Rattle.std.proofs.Common.{sym, ap, ◌∙◌}
use Rattle.qm_model.specs.Find.{name_cmp}
use Rattle.qm_keyed.specs.Places.{StandsAt, BelongsAt}
use Rattle.qm_tables.specs.declared.runs.counts.RunCount.{RunCount}
use Rattle.qm_tables.proofs.RunCounting.{queue_of, counted_there, counted_nowhere}
use Rattle.qm_tables.proofs.runs.counts.RunCounts.of_queue.Goals as goal

pub returns-in-Ok : goal.returns-in-Ok
returns-in-Ok c =
    let stands : StandsAt name_cmp queue_of c.args.queue.now c.self.inside.counts.items c.in-Ok.place = rw c.deref.ensures.value at c.in-Ok.ensures in
    rw (← c.self.view_is) (ap (λ (d : RunCount). d.runs) c.index.ensures ∙ sym (counted_there c.self.inside.counts.items c.args.queue.now c.in-Ok.place c.index.result.now stands))

pub returns-in-Err : goal.returns-in-Err
returns-in-Err c =
    let belongs : BelongsAt name_cmp queue_of c.args.queue.now c.self.inside.counts.items c.in-Err.field-0 = rw c.deref.ensures.value at c.in-Err.ensures in
    rw (← c.self.view_is) (sym (counted_nowhere c.self.inside.counts.items c.args.queue.now c.in-Err.field-0 belongs))
