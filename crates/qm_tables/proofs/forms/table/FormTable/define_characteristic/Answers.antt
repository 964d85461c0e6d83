use Rattle.std.proofs.Common.{◌≡◌, ◌∙◌, ℕ, List, false, ap, arith, nat_cmp}
use Rattle.qm_model.specs.Common.{Characteristic, is_characteristic_taken, with_characteristic_defined}
use Rattle.qm_keyed.specs.Places.{StandsAt, BelongsAt}
use Rattle.qm_tables.specs.Forms.{Defined}
use Rattle.qm_tables.proofs.FormRows.{or_false, untaken, put_is, numbered_put, small_put, defined_is}
use Rattle.qm_tables.proofs.forms.table.FormTable.define_characteristic.Goals as goal

abbrev number_of : Characteristic → ℕ
number_of = λ (c : Characteristic). c.number

abbrev name_of : Characteristic → List ℕ
name_of = λ (c : Characteristic). c.name

-- no characteristic has the number
pub unreachable-requires : goal.unreachable-requires
unreachable-requires c =
    let stands : StandsAt nat_cmp number_of c.args.characteristic.number c.self.inside.characteristics.items c.in_default.field-0 = rw c.deref.ensures.value at c.in_default.ensures in
    let free : is_characteristic_taken c.self.inside.characteristics.items c.args.characteristic ≡ false = ap (λ (w : Defined). is_characteristic_taken w.characteristics c.args.characteristic) c.self.view_is ∙ c.requires.free in
    untaken number_of name_of c.self.inside.characteristics.items c.args.characteristic c.in_default.field-0 stands (or_false _ _ free).1

pub invariant_of-self : goal.invariant_of-self
invariant_of-self c =
    let belongs : BelongsAt nat_cmp number_of c.args.characteristic.number c.self.inside.characteristics.items c.in-Err.place = rw c.deref.ensures.value at c.in-Err.ensures in
    let unused : is_characteristic_taken c.self.inside.characteristics.items c.args.characteristic ≡ false = ap (λ (w : Defined). is_characteristic_taken w.characteristics c.args.characteristic) c.self.view_is ∙ c.requires.free in
    let free = (or_false _ _ unused).0 in (
      record {
        forms_stand = c.self.invariant.0.forms_stand;
        characteristics_stand = rw c.put.ensures.items (numbered_put number_of name_of c.self.inside.characteristics.items c.args.characteristic c.in-Err.place c.self.invariant.0.characteristics_stand belongs free);
        small = rw c.put.ensures.items (small_put c.self.inside.characteristics.items c.args.characteristic c.in-Err.place c.self.invariant.0.small c.requires.small);
      },
      c.self.invariant.1,
    )

pub returns : goal.returns
returns c =
    let belongs : BelongsAt nat_cmp number_of c.args.characteristic.number c.self.inside.characteristics.items c.in-Err.place = rw c.deref.ensures.value at c.in-Err.ensures in
    let rows = c.put.ensures.items ∙ put_is number_of name_of c.self.inside.characteristics.items c.args.characteristic c.in-Err.place belongs ∙ ap (λ (w : Defined). with_characteristic_defined c.args.characteristic w.characteristics) c.self.view_is in
    let spare = ap (λ (w : Defined). w.spare_characteristics) c.self.view_is in
    defined_is _ _ _ _ _ _ _ _ (ap (λ (w : Defined). w.forms) c.self.view_is) rows (ap (λ (w : Defined). w.spare_forms) c.self.view_is) (omega (arith, spare))
