use Rattle.std.proofs.Common.{◌∙◌, length, not, refl, ap, arith, bytes_eq}
use Rattle.qm_kinds.specs.declared.form.Form.{Form}
use Rattle.qm_tables.specs.Forms.{Defined, without_form}
use Rattle.qm_tables.proofs.FormRows.{numbered_kept, defined_is}
use Rattle.qm_tables.proofs.FormsKept.{by_name_without}
use Rattle.qm_tables.proofs.forms.table.FormTable.delete_form.Goals as goal

pub invariant_of-self : goal.invariant_of-self
invariant_of-self c = (
  record {
    forms_stand = rw c.take_out.ensures.items (numbered_kept (λ (f : Form). f.number) (λ (f : Form). f.name) (λ (f : Form). not (bytes_eq f.name c.args.name.now)) c.self.inside.forms.items c.self.invariant.0.forms_stand);
    characteristics_stand = c.self.invariant.0.characteristics_stand;
    small = c.self.invariant.0.small;
  },
  rw (c.take_out.ensures.items, c.take_out-2.ensures.items) (by_name_without c.self.inside.forms.items c.self.inside.by_name.items c.args.name.now c.self.invariant.1 c.self.invariant.0.forms_stand.distinct),
)

pub returns-clause-forms : goal.returns-clause-forms
returns-clause-forms c =
    let rows = c.take_out.ensures.items ∙ ap (λ (w : Defined). without_form c.args.name.now w.forms) c.self.view_is in
    defined_is _ _ _ _ _ _ _ _ rows (ap (λ (w : Defined). w.characteristics) c.self.view_is) refl (ap (λ (w : Defined). w.spare_characteristics) c.self.view_is)

pub returns-clause-room : goal.returns-clause-room
returns-clause-room c =
    let kept = by_name_without c.self.inside.forms.items c.self.inside.by_name.items c.args.name.now c.self.invariant.1 c.self.invariant.0.forms_stand.distinct in
    let spare = ap (λ (w : Defined). w.spare_forms) c.self.view_is in
    let forms = ap (λ (w : Defined). length w.forms) c.self.view_is in
    omega (arith, spare, forms, ap length c.take_out.ensures.items, ap length c.take_out-2.ensures.items, kept.as_many, c.self.invariant.1.as_many, c.take_out.ensures.capacity, c.take_out-2.ensures.capacity, c.self.inside.forms.ok, c.self.inside.by_name.ok, c.take_out.new.forms.ok, c.take_out-2.new.forms.ok)
