use Rattle.std.proofs.Common.{◌≡◌, ◌≤◌, length, insert, None, ap, ◌∙◌, arith, nat_cmp}
use Rattle.std.proofs.lemmas.List.Edits.{length-insert}
use Rattle.qm_keyed.specs.Places.{StandsAt, BelongsAt}
use Rattle.qm_tables.specs.Runs.{Begun, run_numbered, with_run}
use Rattle.qm_tables.proofs.RunCounting.{counted_more, places_put}
use Rattle.qm_tables.proofs.RunNumbers.{number_of, found, put_is, numbered_put, begun_is}
use Rattle.qm_tables.proofs.runs.table.Runs.put.Goals as goal

-- no run has the number
pub unreachable-requires : goal.unreachable-requires
unreachable-requires c =
    let stands : StandsAt nat_cmp number_of c.args.run.run c.self.inside.runs.items c.in_default.field-0 = rw c.deref.ensures.value at c.in_default.ensures in
    let none : run_numbered c.args.run.run c.self.inside.runs.items ≡ None = ap (λ (w : Begun). run_numbered c.args.run.run w.runs) c.self.view_is ∙ c.requires.absent in
    let some = found c.self.inside.runs.items c.args.run.run c.in_default.field-0 c.args.run stands in
    cc (none, some)

pub invariant_of-self : goal.invariant_of-self
invariant_of-self c =
    let belongs : BelongsAt nat_cmp number_of c.args.run.run c.self.inside.runs.items c.in-Err.place = rw c.deref.ensures.value at c.in-Err.ensures in
    let below = rw (← c.self.view_is) at c.requires.below in
    let spare = ap (λ (w : Begun). w.spare) c.self.view_is in
    let size = length-insert c.self.inside.runs.items c.in-Err.place c.args.run belongs.within in
    let few : length (insert c.self.inside.runs.items c.in-Err.place c.args.run) ≤ 4294967295 = omega (arith, spare, size, c.requires.room, c.self.inside.runs.ok) in
    let after = insert c.self.inside.runs.items c.in-Err.place c.args.run in
    let room : length after ≤ c.add.new.self.room = omega (arith, spare, size, c.requires.room, c.self.inside.runs.ok, c.add.ensures.room) in
    rw c.put.ensures.items (
      numbered_put c.self.inside.runs.items c.self.inside.next c.self.invariant.0 c.in-Err.place c.args.run belongs below few,
      counted_more c.self.inside.runs.items after c.self.inside.counts c.add.new.self c.args.run.queue c.self.invariant.1 c.add.ensures.few room c.add.ensures.more (places_put c.self.inside.runs.items c.in-Err.place c.args.run) size,
    )

pub returns : goal.returns
returns c =
    let belongs : BelongsAt nat_cmp number_of c.args.run.run c.self.inside.runs.items c.in-Err.place = rw c.deref.ensures.value at c.in-Err.ensures in
    let runs = c.put.ensures.items ∙ put_is c.self.inside.runs.items c.in-Err.place c.args.run belongs ∙ ap (λ (w : Begun). with_run c.args.run w.runs) c.self.view_is in
    let spare = ap (λ (w : Begun). w.spare) c.self.view_is in
    begun_is _ _ _ _ _ _ runs (ap (λ (w : Begun). w.next) c.self.view_is) (omega (arith, spare))
