use Rattle.std.proofs.Common.{Some, refl, sym, ap, ◌∙◌, arith, nat_cmp}
use Rattle.qm_model.specs.Common.{Entry, with_entry}
use Rattle.qm_keyed.specs.Places.{StandsAt, BelongsAt}
use Rattle.qm_tables.specs.Entries.{Kept}
use Rattle.qm_tables.proofs.Numbers.{number_of, found, absent, replaced_is, unchanged, order_replaced, kept_is}
use Rattle.qm_tables.proofs.entries.table.EntryTable.replace.Goals as goal

pub returns-in_default-clause-replaced : goal.returns-in_default-clause-replaced
returns-in_default-clause-replaced c =
    let belongs : BelongsAt nat_cmp number_of c.args.entry.number c.self.inside.shelf.entries c.in_default.field-0 = rw c.as_slice.ensures at c.in_default.ensures in
    rw (← c.self.view_is) (sym (absent c.self.inside.shelf.entries c.args.entry.number c.in_default.field-0 belongs))

pub returns-in_default-clause-entries : goal.returns-in_default-clause-entries
returns-in_default-clause-entries c =
    let belongs : BelongsAt nat_cmp number_of c.args.entry.number c.self.inside.shelf.entries c.in_default.field-0 = rw c.as_slice.ensures at c.in_default.ensures in
    rw (← c.self.view_is) (kept_is _ _ _ _ (unchanged c.self.inside.shelf.entries c.args.entry.number c.in_default.field-0 (λ (e : Entry). Some c.args.entry) belongs) refl)

pub invariant_of-self : goal.invariant_of-self
invariant_of-self c =
    let stands : StandsAt nat_cmp number_of c.args.entry.number c.self.inside.shelf.entries c.in-Ok.place = rw c.as_slice.ensures at c.in-Ok.ensures in (
      rw c.replace.ensures.entries (order_replaced c.self.inside.shelf.entries c.args.entry c.in-Ok.place stands c.self.invariant.0),
      λ ready. omega (arith, c.self.invariant.1 ready, c.replace.ensures.room),
    )

pub returns-clause-replaced : goal.returns-clause-replaced
returns-clause-replaced c =
    let stands : StandsAt nat_cmp number_of c.args.entry.number c.self.inside.shelf.entries c.in-Ok.place = rw c.as_slice.ensures at c.in-Ok.ensures in
    rw (← c.self.view_is) (c.replace.ensures.replaced ∙ sym (found c.self.inside.shelf.entries c.args.entry.number c.in-Ok.place stands))

pub returns-clause-entries : goal.returns-clause-entries
returns-clause-entries c =
    let stands : StandsAt nat_cmp number_of c.args.entry.number c.self.inside.shelf.entries c.in-Ok.place = rw c.as_slice.ensures at c.in-Ok.ensures in
    let entries = c.replace.ensures.entries ∙ replaced_is c.self.inside.shelf.entries c.args.entry c.in-Ok.place stands in
    kept_is _ _ _ _ (entries ∙ ap (λ (w : Kept). with_entry c.args.entry.number (λ (e : Entry). Some c.args.entry) w.entries) c.self.view_is) (ap (λ (w : Kept). w.spare) c.self.view_is)
