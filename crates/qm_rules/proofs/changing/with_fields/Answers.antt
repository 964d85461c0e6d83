use Rattle.std.proofs.Common.{◌∙◌, unwrap_or, ap}
use Rattle.std.specs.Option.{option_or}
use Rattle.qm_model.specs.Entries.{with_fields}
use Rattle.qm_model.specs.Wanted.{characteristics_of}
use Rattle.qm_rules.proofs.Given.{made_or}
use Rattle.qm_rules.proofs.changing.with_fields.Goals as goal

pub returns : goal.returns
returns c = λ s has.
    let change = c.args.change.now in
    let entry = c.args.entry.now in
    let characteristics = c.unwrap_or-6.ensures ∙ ap (λ o. unwrap_or o entry.characteristics) (c.characteristics_of.ensures s has) ∙ made_or (characteristics_of s) change.characteristics entry.characteristics in
    let form = c.or.ensures ∙ ap (λ o. option_or o entry.form) (c.form_named.ensures s has) in
    λ t. record (with_fields s change entry) {
      home = c.unwrap_or.ensures t;
      name = c.unwrap_or-2.ensures t;
      priority = c.unwrap_or-3.ensures t;
      after = c.moment_after.ensures t;
      held = c.is_held_after.ensures t;
      retain = c.unwrap_or-4.ensures t;
      restart = c.unwrap_or-5.ensures t;
      characteristics = characteristics t;
      form = form t;
    }
