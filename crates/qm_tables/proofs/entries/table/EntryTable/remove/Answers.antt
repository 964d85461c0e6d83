use Rattle.std.proofs.Common.{None, refl, sym, ap, ◌∙◌, arith, nat_cmp}
use Rattle.qm_model.specs.Common.{Entry, with_entry}
use Rattle.qm_keyed.specs.Places.{StandsAt, BelongsAt}
use Rattle.qm_tables.specs.Entries.{Kept}
use Rattle.qm_tables.proofs.Numbers.{number_of, found, absent, removed, unchanged, order_less, kept_is}
use Rattle.qm_tables.proofs.entries.table.EntryTable.remove.Goals as goal

pub returns-in_default-clause-removed : goal.returns-in_default-clause-removed
returns-in_default-clause-removed c =
    let belongs : BelongsAt nat_cmp number_of c.args.number c.self.inside.shelf.entries c.in_default.field-0 = rw c.as_slice.ensures at c.in_default.ensures in
    rw (← c.self.view_is) (sym (absent c.self.inside.shelf.entries c.args.number c.in_default.field-0 belongs))

pub returns-in_default-clause-entries : goal.returns-in_default-clause-entries
returns-in_default-clause-entries c =
    let belongs : BelongsAt nat_cmp number_of c.args.number c.self.inside.shelf.entries c.in_default.field-0 = rw c.as_slice.ensures at c.in_default.ensures in
    rw (← c.self.view_is) (kept_is _ _ _ _ (unchanged c.self.inside.shelf.entries c.args.number c.in_default.field-0 (λ (e : Entry). None) belongs) refl)

pub invariant_of-self : goal.invariant_of-self
invariant_of-self c = (
  rw c.take.ensures.entries (order_less c.self.inside.shelf.entries c.in-Ok.place c.self.invariant.0),
  λ ready. omega (arith, c.self.invariant.1 ready, c.take.ensures.room),
)

pub returns-clause-removed : goal.returns-clause-removed
returns-clause-removed c =
    let stands : StandsAt nat_cmp number_of c.args.number c.self.inside.shelf.entries c.in-Ok.place = rw c.as_slice.ensures at c.in-Ok.ensures in
    rw (← c.self.view_is) (c.take.ensures.taken ∙ sym (found c.self.inside.shelf.entries c.args.number c.in-Ok.place stands))

pub returns-clause-entries : goal.returns-clause-entries
returns-clause-entries c =
    let stands : StandsAt nat_cmp number_of c.args.number c.self.inside.shelf.entries c.in-Ok.place = rw c.as_slice.ensures at c.in-Ok.ensures in
    let entries = c.take.ensures.entries ∙ removed c.self.inside.shelf.entries c.args.number c.in-Ok.place stands in
    kept_is _ _ _ _ (entries ∙ ap (λ (w : Kept). with_entry c.args.number (λ (e : Entry). None) w.entries) c.self.view_is) (ap (λ (w : Kept). w.spare) c.self.view_is)
