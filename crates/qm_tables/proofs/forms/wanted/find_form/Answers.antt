use Rattle.std.proofs.Common.{◌∙◌, sym, ap}
use Rattle.qm_model.specs.Common.{NameOrNumber, form_wanted}
use Rattle.qm_tables.proofs.forms.wanted.find_form.Goals as goal

pub returns-in-Name : goal.returns-in-Name
returns-in-Name c = c.find_named.ensures ∙ c.requires.names.same c.in-Name.name ∙ ap (λ (w : NameOrNumber). form_wanted w c.args.forms.now) (sym c.in-Name.is)
