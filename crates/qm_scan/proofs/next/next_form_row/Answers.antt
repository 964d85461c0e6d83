use Rattle.std.proofs.Common.{◌∙◌, sym, ap, option_map}
use Rattle.qm_model.specs.Common.{Form, matches}
use Rattle.qm_kinds.specs.declared.query.Row.TheVariants as row
use Rattle.qm_scan.specs.Listed.{is_behind}
use Rattle.qm_scan.proofs.Found.{find_row}
use Rattle.qm_scan.proofs.next.next_form_row.Goals as goal

pub returns-in-None : goal.returns-in-None
returns-in-None c = ap (option_map (λ (x : Form). row.Form x)) c.in-None.ensures ∙ sym (find_row (λ (x : Form). row.Form x) (is_behind c.args.query.now.after) (λ (f : Form). matches c.args.query.now.pattern f.name) c.args.forms.now)

pub returns-in-Some : goal.returns-in-Some
returns-in-Some c = ap (option_map (λ (x : Form). row.Form x)) c.in-Some.ensures ∙ sym (find_row (λ (x : Form). row.Form x) (is_behind c.args.query.now.after) (λ (f : Form). matches c.args.query.now.pattern f.name) c.args.forms.now)
