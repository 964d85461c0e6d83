use Rattle.std.proofs.Common.{◌≤◌, length, remove, Some, refl, sym, ap, ◌∙◌, arith, option_map, nat_cmp}
use Rattle.std.proofs.lemmas.List.Edits.{length-remove}
use Rattle.qm_kinds.specs.declared.run.Run.{Run}
use Rattle.qm_keyed.specs.Places.{StandsAt, BelongsAt}
use Rattle.qm_tables.specs.Runs.{Begun, without_run}
use Rattle.qm_tables.proofs.RunCounting.{counted_less, ended_counted, places_ended}
use Rattle.qm_tables.proofs.RunNumbers.{number_of, found, absent, removed, kept, numbered_removed, begun_is}
use Rattle.qm_tables.proofs.runs.table.Runs.end.Goals as goal

pub returns-in_default-clause-entry : goal.returns-in_default-clause-entry
returns-in_default-clause-entry c =
    let belongs : BelongsAt nat_cmp number_of c.args.run c.self.inside.runs.items c.in_default.field-0 = rw c.deref.ensures.value at c.in_default.ensures in
    rw (← c.self.view_is) (sym (ap (option_map (λ (r : Run). r.entry)) (absent c.self.inside.runs.items c.args.run c.in_default.field-0 belongs)))

pub returns-in_default-clause-runs : goal.returns-in_default-clause-runs
returns-in_default-clause-runs c =
    let belongs : BelongsAt nat_cmp number_of c.args.run c.self.inside.runs.items c.in_default.field-0 = rw c.deref.ensures.value at c.in_default.ensures in
    rw (← c.self.view_is) (begun_is _ _ _ _ _ _ (kept c.self.inside.runs.items c.args.run c.in_default.field-0 belongs) refl refl)

pub returns-clause-entry : goal.returns-clause-entry
returns-clause-entry c =
    let stands : StandsAt nat_cmp number_of c.args.run c.self.inside.runs.items c.in-Ok.place = rw c.deref.ensures.value at c.in-Ok.ensures in
    rw (← c.self.view_is)
    (ap (λ (r : Run). Some r.entry) c.remove-ended.ensures.value
    ∙ sym (ap (option_map (λ (r : Run). r.entry)) (found c.self.inside.runs.items c.args.run c.in-Ok.place c.remove-ended.result stands)))

pub returns-clause-runs : goal.returns-clause-runs
returns-clause-runs c =
    let stands : StandsAt nat_cmp number_of c.args.run c.self.inside.runs.items c.in-Ok.place = rw c.deref.ensures.value at c.in-Ok.ensures in
    let runs = c.remove-ended.ensures.items ∙ removed c.self.inside.runs.items c.args.run c.in-Ok.place stands ∙ ap (λ (w : Begun). without_run c.args.run w.runs) c.self.view_is in
    let spare = ap (λ (w : Begun). w.spare) c.self.view_is in
    begun_is _ _ _ _ _ _ runs (ap (λ (w : Begun). w.next) c.self.view_is) (omega (arith, spare, c.self.invariant.0.few, c.self.invariant.1.room, c.take.ensures.room, c.self.inside.runs.ok))

pub take-requires : goal.take-requires
take-requires c =
    let stands : StandsAt nat_cmp number_of c.args.run c.self.inside.runs.items c.in-Ok.place = rw c.deref.ensures.value at c.in-Ok.ensures in
    let queue = ap (λ (r : Run). r.queue) c.remove-ended.ensures.value in
    record { some = ended_counted c.self.inside.runs.items c.in-Ok.place c.remove-ended.result c.remove-ended.result.queue stands.within queue c.self.inside.counts c.self.invariant.1 }

pub invariant_of-self : goal.invariant_of-self
invariant_of-self c =
    let stands : StandsAt nat_cmp number_of c.args.run c.self.inside.runs.items c.in-Ok.place = rw c.deref.ensures.value at c.in-Ok.ensures in
    let queue = ap (λ (r : Run). r.queue) c.remove-ended.ensures.value in
    let after = remove c.self.inside.runs.items c.in-Ok.place in
    let size = length-remove c.self.inside.runs.items c.in-Ok.place stands.within in
    let room : length after ≤ c.take.new.self.room = omega (arith, size, c.self.invariant.1.room, c.take.ensures.room) in
    rw c.remove-ended.ensures.items (
      numbered_removed c.self.inside.runs.items c.self.inside.next c.self.invariant.0 c.in-Ok.place (omega (arith, size)),
      counted_less c.self.inside.runs.items after c.self.inside.counts c.take.new.self c.remove-ended.result.queue c.self.invariant.1 c.take.ensures.few room c.take.ensures.less (places_ended c.self.inside.runs.items c.in-Ok.place c.remove-ended.result c.remove-ended.result.queue stands.within queue) size,
    )
