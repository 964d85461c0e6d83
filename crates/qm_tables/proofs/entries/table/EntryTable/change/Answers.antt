use Rattle.std.proofs.Common.{is_some, Some, refl, sym, ap, ◌∙◌, arith, nat_cmp}
use Rattle.qm_model.specs.Common.{Entry, with_entry}
use Rattle.qm_keyed.specs.Places.{StandsAt, BelongsAt}
use Rattle.qm_tables.specs.Changes.{changed_by}
use Rattle.qm_tables.specs.Entries.{Kept}
use Rattle.qm_tables.proofs.Numbers.{number_of, absent, unchanged, changed_is, order_changed, number_stays, is_found, kept_is}
use Rattle.qm_tables.proofs.entries.table.EntryTable.change.Goals as goal

pub returns-in_default-clause-found : goal.returns-in_default-clause-found
returns-in_default-clause-found c =
    let belongs : BelongsAt nat_cmp number_of c.args.number c.self.inside.shelf.entries c.in_default.field-0 = rw c.as_slice.ensures at c.in_default.ensures in
    rw (← c.self.view_is) (sym (ap is_some (absent c.self.inside.shelf.entries c.args.number c.in_default.field-0 belongs)))

pub returns-in_default-clause-entries : goal.returns-in_default-clause-entries
returns-in_default-clause-entries c =
    let belongs : BelongsAt nat_cmp number_of c.args.number c.self.inside.shelf.entries c.in_default.field-0 = rw c.as_slice.ensures at c.in_default.ensures in
    rw (← c.self.view_is) (kept_is _ _ _ _ (unchanged c.self.inside.shelf.entries c.args.number c.in_default.field-0 (λ (e : Entry). Some (changed_by c.args.change.now e)) belongs) refl)

pub invariant_of-self : goal.invariant_of-self
invariant_of-self c =
    let stands : StandsAt nat_cmp number_of c.args.number c.self.inside.shelf.entries c.in-Ok.place = rw c.as_slice.ensures at c.in-Ok.ensures in (
      order_changed (changed_by c.args.change.now) c.self.inside.shelf.entries c.change_at.new.self.entries c.in-Ok.place stands.within c.change_at.ensures.entries (number_stays c.args.change.now) c.self.invariant.0,
      λ ready. omega (arith, c.self.invariant.1 ready, c.change_at.ensures.room),
    )

pub returns-clause-found : goal.returns-clause-found
returns-clause-found c =
    let stands : StandsAt nat_cmp number_of c.args.number c.self.inside.shelf.entries c.in-Ok.place = rw c.as_slice.ensures at c.in-Ok.ensures in
    rw (← c.self.view_is) (is_found c.self.inside.shelf.entries c.args.number c.in-Ok.place stands)

pub returns-clause-entries : goal.returns-clause-entries
returns-clause-entries c =
    let stands : StandsAt nat_cmp number_of c.args.number c.self.inside.shelf.entries c.in-Ok.place = rw c.as_slice.ensures at c.in-Ok.ensures in
    let entries = changed_is (changed_by c.args.change.now) c.self.inside.shelf.entries c.change_at.new.self.entries c.args.number c.in-Ok.place stands c.change_at.ensures.entries in
    kept_is _ _ _ _ (entries ∙ ap (λ (w : Kept). with_entry c.args.number (λ (e : Entry). Some (changed_by c.args.change.now e)) w.entries) c.self.view_is) (ap (λ (w : Kept). w.spare) c.self.view_is)
