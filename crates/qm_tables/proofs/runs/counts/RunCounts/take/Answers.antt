use Rattle.std.proofs.Common.{◌≡◌, ◌-◌, get_or, set, remove, refl, sym, ap, ◌∙◌, arith}
use Rattle.std.proofs.lemmas.List.Sums.{sum_by-set, sum_by-remove}
use Rattle.qm_model.specs.Find.{name_cmp}
use Rattle.qm_keyed.specs.Places.{StandsAt, BelongsAt}
use Rattle.qm_tables.specs.declared.runs.counts.RunCount.{RunCount}
use Rattle.qm_tables.proofs.RunCounting.{queue_of, queue_there, counted_nowhere, more_there, first_there, few_queues, by_queue_removed, by_queue_set}
use Rattle.qm_tables.proofs.runs.counts.RunCounts.take.Goals as goal

-- the queue has a run
pub unreachable-requires : goal.unreachable-requires
unreachable-requires c =
    let belongs : BelongsAt name_cmp queue_of c.args.queue.now c.self.inside.counts.items c.in_default.field-0 = rw c.deref.ensures.value at c.in_default.ensures in
    let some = rw (← c.self.view_is) at c.requires.some in
    omega (arith, counted_nowhere c.self.inside.counts.items c.args.queue.now c.in_default.field-0 belongs, some)

pub returns-then-index-eq1-clause-less : goal.returns-then-index-eq1-clause-less
returns-then-index-eq1-clause-less c =
    let stands : StandsAt name_cmp queue_of c.args.queue.now c.self.inside.counts.items c.in-Ok.place = rw c.deref.ensures.value at c.in-Ok.ensures in
    let one : (get_or c.self.inside.counts.items c.in-Ok.place c.index.result.now).runs ≡ 1 = ap (λ (d : RunCount). d.runs) (sym c.index.ensures) ∙ c.if-index-eq1.true in
    rw (← c.self.view_is)
    (rw c.remove.ensures.items
    (first_there c.args.queue.now (remove c.self.inside.counts.items c.in-Ok.place) c.self.inside.counts.items
    (get_or c.self.inside.counts.items c.in-Ok.place c.index.result.now)
    (queue_there c.self.inside.counts.items c.args.queue.now c.in-Ok.place c.index.result.now stands) one
    (λ f. sym (sum_by-remove f c.self.inside.counts.items c.in-Ok.place c.index.result.now stands.within))))

pub returns-then-index-eq1-clause-few : goal.returns-then-index-eq1-clause-few
returns-then-index-eq1-clause-few c = rw c.remove.ensures.items (few_queues _ (by_queue_removed c.self.inside.counts.items c.self.invariant c.in-Ok.place).some)

pub returns-else-index-eq1-clause-less : goal.returns-else-index-eq1-clause-less
returns-else-index-eq1-clause-less c =
    let stands : StandsAt name_cmp queue_of c.args.queue.now c.self.inside.counts.items c.in-Ok.place = rw c.deref.ensures.value at c.in-Ok.ensures in
    let there = queue_there c.self.inside.counts.items c.args.queue.now c.in-Ok.place c.index.result.now stands in
    let some = c.self.invariant.some c.in-Ok.place c.index.result.now stands.within in
    rw (← c.self.view_is)
    (rw (c.take_at.ensures.items c.index.result.now)
    (more_there c.args.queue.now
    (set c.self.inside.counts.items c.in-Ok.place (record (get_or c.self.inside.counts.items c.in-Ok.place c.index.result.now) { runs = (get_or c.self.inside.counts.items c.in-Ok.place c.index.result.now).runs - 1 }))
    c.self.inside.counts.items
    (get_or c.self.inside.counts.items c.in-Ok.place c.index.result.now) there
    (record (get_or c.self.inside.counts.items c.in-Ok.place c.index.result.now) { runs = (get_or c.self.inside.counts.items c.in-Ok.place c.index.result.now).runs - 1 }) there
    (omega (arith, some))
    (λ f. sym (sum_by-set f c.self.inside.counts.items c.in-Ok.place (record (get_or c.self.inside.counts.items c.in-Ok.place c.index.result.now) { runs = (get_or c.self.inside.counts.items c.in-Ok.place c.index.result.now).runs - 1 }) c.index.result.now stands.within))))

pub returns-else-index-eq1-clause-few : goal.returns-else-index-eq1-clause-few
returns-else-index-eq1-clause-few c =
    let stands : StandsAt name_cmp queue_of c.args.queue.now c.self.inside.counts.items c.in-Ok.place = rw c.deref.ensures.value at c.in-Ok.ensures in
    let some = c.self.invariant.some c.in-Ok.place c.index.result.now stands.within in
    let is = ap (λ (d : RunCount). d.runs) c.index.ensures in
    rw (c.take_at.ensures.items c.index.result.now)
    (few_queues _
    (by_queue_set c.self.inside.counts.items c.self.invariant c.in-Ok.place (record (get_or c.self.inside.counts.items c.in-Ok.place c.index.result.now) { runs = (get_or c.self.inside.counts.items c.in-Ok.place c.index.result.now).runs - 1 }) c.index.result.now stands.within (omega (arith, some, is, c.if-index-eq1.false)) refl).some)
