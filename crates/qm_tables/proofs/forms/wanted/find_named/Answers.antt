use Rattle.std.proofs.Common.{◌∙◌, Some, sym, ap}
use Rattle.qm_kinds.specs.declared.form.Form.{Form}
use Rattle.qm_tables.proofs.FormsNamed.{named_at, unnamed}
use Rattle.qm_tables.proofs.forms.wanted.find_named.Goals as goal

pub returns-in_default : goal.returns-in_default
returns-in_default c = sym (unnamed c.args.by_name.now c.in_default.field-0 c.args.name.now c.in_default.ensures)

pub returns : goal.returns
returns c = ap (λ (f : Form). Some f) c.index-by_name-place.is ∙ sym (named_at c.args.by_name.now c.in-Ok.place c.args.name.now c.index-by_name-place.result c.in-Ok.ensures)
