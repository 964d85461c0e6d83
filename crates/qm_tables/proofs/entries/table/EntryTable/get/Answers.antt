use Rattle.std.proofs.Common.{sym, ◌∙◌, nat_cmp}
use Rattle.qm_keyed.specs.Places.{StandsAt, BelongsAt}
use Rattle.qm_tables.proofs.Numbers.{number_of, found, absent}
use Rattle.qm_tables.proofs.entries.table.EntryTable.get.Goals as goal

pub returns-in_default-clause-found : goal.returns-in_default-clause-found
returns-in_default-clause-found c =
    let belongs : BelongsAt nat_cmp number_of c.args.number c.self.inside.shelf.entries c.in_default.field-0 = rw c.as_slice-entries.ensures at c.in_default.ensures in
    rw (← c.self.view_is) (sym (absent c.self.inside.shelf.entries c.args.number c.in_default.field-0 belongs))

pub returns-clause-found : goal.returns-clause-found
returns-clause-found c =
    let stands : StandsAt nat_cmp number_of c.args.number c.self.inside.shelf.entries c.in-Ok.place = rw c.as_slice-entries.ensures at c.in-Ok.ensures in
    let there = rw c.as_slice-entries.ensures at c.at.ensures in
    rw (← c.self.view_is) (there ∙ sym (found c.self.inside.shelf.entries c.args.number c.in-Ok.place stands))
