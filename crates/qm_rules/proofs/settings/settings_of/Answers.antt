use Rattle.std.proofs.Common.{◌∙◌, unwrap_or, ap}
use Rattle.std.specs.Option.{option_or}
use Rattle.qm_model.specs.Common.{with_change, characteristics_of}
use Rattle.qm_rules.proofs.Given.{made_or}
use Rattle.qm_rules.proofs.settings.settings_of.Goals as goal

pub returns : goal.returns
returns c = λ s has q.
    let characteristics = ap (λ o. unwrap_or o q.characteristics) (c.characteristics_of.ensures s has) ∙ made_or (characteristics_of s) c.args.change.now.characteristics q.characteristics in
    let mounted = ap (λ o. option_or o q.mounted) (c.form_named.ensures s has) in
    λ t. record (with_change s c.args.change.now q) { characteristics = characteristics t; mounted = mounted t }
