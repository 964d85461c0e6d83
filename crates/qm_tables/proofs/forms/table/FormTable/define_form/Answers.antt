use Rattle.std.proofs.Common.{◌≡◌, ◌∙◌, ℕ, List, false, ap, arith, nat_cmp}
use Rattle.qm_model.specs.Common.{Form, name_cmp, is_form_taken, with_form}
use Rattle.qm_keyed.specs.Places.{StandsAt, BelongsAt}
use Rattle.qm_tables.specs.Forms.{Defined}
use Rattle.qm_tables.proofs.FormRows.{or_false, untaken, put_is, numbered_put, defined_is}
use Rattle.qm_tables.proofs.FormsKept.{unused, by_name_put}
use Rattle.qm_tables.proofs.forms.table.FormTable.define_form.Goals as goal

abbrev number_of : Form → ℕ
number_of = λ (f : Form). f.number

abbrev name_of : Form → List ℕ
name_of = λ (f : Form). f.name

-- no form has the number
pub unreachable-requires : goal.unreachable-requires
unreachable-requires c =
    let stands : StandsAt nat_cmp number_of c.args.form.number c.self.inside.forms.items c.in_default.field-0 = rw c.deref.ensures.value at c.in_default.ensures in
    let free : is_form_taken c.self.inside.forms.items c.args.form ≡ false = ap (λ (w : Defined). is_form_taken w.forms c.args.form) c.self.view_is ∙ c.requires.free in
    untaken number_of name_of c.self.inside.forms.items c.args.form c.in_default.field-0 stands (or_false _ _ free).1

-- and no form has the name
pub unreachable-requires-in_default-place_of : goal.unreachable-requires-in_default-place_of
unreachable-requires-in_default-place_of c =
    let stands : StandsAt name_cmp name_of c.args.form.name c.self.inside.by_name.items c.in_default-place_of.field-0 = rw c.deref-2.ensures.value at c.in_default-place_of.ensures in
    let free : is_form_taken c.self.inside.forms.items c.args.form ≡ false = ap (λ (w : Defined). is_form_taken w.forms c.args.form) c.self.view_is ∙ c.requires.free in
    unused c.self.inside.forms.items c.self.inside.by_name.items c.args.form c.in_default-place_of.field-0 c.self.invariant.1 stands (or_false _ _ free).0

pub invariant_of-self : goal.invariant_of-self
invariant_of-self c =
    let belongs : BelongsAt nat_cmp number_of c.args.form.number c.self.inside.forms.items c.in-Err.place = rw c.deref.ensures.value at c.in-Err.ensures in
    let named : BelongsAt name_cmp name_of c.args.form.name c.self.inside.by_name.items c.in-Err-place_of.place_by_name = rw c.deref-2.ensures.value at c.in-Err-place_of.ensures in
    let free_of : is_form_taken c.self.inside.forms.items c.args.form ≡ false = ap (λ (w : Defined). is_form_taken w.forms c.args.form) c.self.view_is ∙ c.requires.free in
    let free = (or_false _ _ free_of).0 in (
      record {
        forms_stand = rw c.put.ensures.items (numbered_put number_of name_of c.self.inside.forms.items c.args.form c.in-Err.place c.self.invariant.0.forms_stand belongs free);
        characteristics_stand = c.self.invariant.0.characteristics_stand;
        small = c.self.invariant.0.small;
      },
      rw (c.put.ensures.items, c.put-2.ensures.items) (by_name_put c.self.inside.forms.items c.self.inside.by_name.items c.args.form c.in-Err.place c.in-Err-place_of.place_by_name c.self.invariant.1 belongs.within named),
    )

pub returns : goal.returns
returns c =
    let belongs : BelongsAt nat_cmp number_of c.args.form.number c.self.inside.forms.items c.in-Err.place = rw c.deref.ensures.value at c.in-Err.ensures in
    let rows = c.put.ensures.items ∙ put_is number_of name_of c.self.inside.forms.items c.args.form c.in-Err.place belongs ∙ ap (λ (w : Defined). with_form c.args.form w.forms) c.self.view_is in
    let spare = ap (λ (w : Defined). w.spare_forms) c.self.view_is in
    defined_is _ _ _ _ _ _ _ _ rows (ap (λ (w : Defined). w.characteristics) c.self.view_is) (omega (arith, spare)) (ap (λ (w : Defined). w.spare_characteristics) c.self.view_is)
