use Rattle.std.proofs.Common.{Some, sym, ap, ◌∙◌, nat_cmp}
use Rattle.qm_kinds.specs.declared.run.Run.{Run}
use Rattle.qm_keyed.specs.Places.{StandsAt, BelongsAt}
use Rattle.qm_tables.proofs.RunNumbers.{number_of, found, absent}
use Rattle.qm_tables.proofs.runs.table.Runs.find.Goals as goal

pub returns-in_default-clause-found : goal.returns-in_default-clause-found
returns-in_default-clause-found c =
    let belongs : BelongsAt nat_cmp number_of c.args.run c.self.inside.runs.items c.in_default.field-0 = rw c.deref.ensures.value at c.in_default.ensures in
    rw (← c.self.view_is) (sym (absent c.self.inside.runs.items c.args.run c.in_default.field-0 belongs))

pub returns-clause-found : goal.returns-clause-found
returns-clause-found c =
    let stands : StandsAt nat_cmp number_of c.args.run c.self.inside.runs.items c.in-Ok.place = rw c.deref.ensures.value at c.in-Ok.ensures in
    rw (← c.self.view_is) (ap (λ (r : Run). Some r) c.index.ensures ∙ sym (found c.self.inside.runs.items c.args.run c.in-Ok.place c.index.result.now stands))
