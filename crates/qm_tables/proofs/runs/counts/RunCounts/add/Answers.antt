use Rattle.std.proofs.Common.{◌+◌, [], get_or, set, refl, arith}
use Rattle.std.proofs.lemmas.List.Sums.{sum_by-set}
use Rattle.qm_model.specs.Find.{name_cmp}
use Rattle.qm_keyed.specs.Places.{StandsAt, BelongsAt}
use Rattle.qm_tables.specs.declared.runs.counts.RunCount.{RunCount}
use Rattle.qm_tables.proofs.RunCounting.{queue_of, queue_there, more_there, few_queues, by_queue_put, by_queue_set}
use Rattle.qm_tables.proofs.runs.counts.RunCounts.add.Goals as goal

none : RunCount
none = record { queue = []; runs = 0 }

pub invariant_of-self : goal.invariant_of-self
invariant_of-self c =
    let stands : StandsAt name_cmp queue_of c.args.queue.now c.self.inside.counts.items c.in-Ok.place = rw c.deref.ensures.value at c.in-Ok.ensures in
    rw (c.add_at.ensures.items none)
    (by_queue_set c.self.inside.counts.items c.self.invariant c.in-Ok.place (record (get_or c.self.inside.counts.items c.in-Ok.place none) { runs = (get_or c.self.inside.counts.items c.in-Ok.place none).runs + 1 }) none stands.within (omega arith) refl)

pub invariant_of-self-in-Err : goal.invariant_of-self-in-Err
invariant_of-self-in-Err c =
    let belongs : BelongsAt name_cmp queue_of c.args.queue.now c.self.inside.counts.items c.in-Err.place = rw c.deref.ensures.value at c.in-Err.ensures in
    rw c.put.ensures.items (by_queue_put c.self.inside.counts.items c.self.invariant c.in-Err.place (record { queue = c.args.queue.now; runs = 1 }) (omega arith) belongs)

pub returns-in-Ok-clause-more : goal.returns-in-Ok-clause-more
returns-in-Ok-clause-more c =
    let stands : StandsAt name_cmp queue_of c.args.queue.now c.self.inside.counts.items c.in-Ok.place = rw c.deref.ensures.value at c.in-Ok.ensures in
    let there = queue_there c.self.inside.counts.items c.args.queue.now c.in-Ok.place none stands in
    rw (← c.self.view_is)
    (rw (c.add_at.ensures.items none)
    (more_there c.args.queue.now c.self.inside.counts.items
    (set c.self.inside.counts.items c.in-Ok.place (record (get_or c.self.inside.counts.items c.in-Ok.place none) { runs = (get_or c.self.inside.counts.items c.in-Ok.place none).runs + 1 }))
    (record (get_or c.self.inside.counts.items c.in-Ok.place none) { runs = (get_or c.self.inside.counts.items c.in-Ok.place none).runs + 1 })
    there (get_or c.self.inside.counts.items c.in-Ok.place none) there refl
    (λ f. sum_by-set f c.self.inside.counts.items c.in-Ok.place (record (get_or c.self.inside.counts.items c.in-Ok.place none) { runs = (get_or c.self.inside.counts.items c.in-Ok.place none).runs + 1 }) none stands.within)))

pub returns-in-Ok-clause-few : goal.returns-in-Ok-clause-few
returns-in-Ok-clause-few c =
    let stands : StandsAt name_cmp queue_of c.args.queue.now c.self.inside.counts.items c.in-Ok.place = rw c.deref.ensures.value at c.in-Ok.ensures in
    rw (c.add_at.ensures.items none)
    (few_queues _
    (by_queue_set c.self.inside.counts.items c.self.invariant c.in-Ok.place (record (get_or c.self.inside.counts.items c.in-Ok.place none) { runs = (get_or c.self.inside.counts.items c.in-Ok.place none).runs + 1 }) none stands.within (omega arith) refl).some)

pub returns-in-Err-clause-few : goal.returns-in-Err-clause-few
returns-in-Err-clause-few c =
    let belongs : BelongsAt name_cmp queue_of c.args.queue.now c.self.inside.counts.items c.in-Err.place = rw c.deref.ensures.value at c.in-Err.ensures in
    rw c.put.ensures.items (few_queues _ (by_queue_put c.self.inside.counts.items c.self.invariant c.in-Err.place (record { queue = c.args.queue.now; runs = 1 }) (omega arith) belongs).some)
