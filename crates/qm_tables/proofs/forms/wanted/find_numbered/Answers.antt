use Rattle.std.proofs.Common.{◌∙◌, Some, sym, ap}
use Rattle.qm_kinds.specs.declared.form.Form.{Form}
use Rattle.qm_tables.proofs.FormsNamed.{numbered_at, unnumbered}
use Rattle.qm_tables.proofs.forms.wanted.find_numbered.Goals as goal

pub returns-in_default : goal.returns-in_default
returns-in_default c = sym (unnumbered c.args.forms.now c.in_default.field-0 c.args.number c.in_default.ensures)

pub returns : goal.returns
returns c = ap (λ (f : Form). Some f) c.index-forms-place.is ∙ sym (numbered_at c.args.forms.now c.in-Ok.place c.args.number c.index-forms-place.result c.in-Ok.ensures)
