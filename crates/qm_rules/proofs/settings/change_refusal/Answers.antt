use Rattle.std.proofs.Common.{◌∙◌, [], ◌∷◌, ap}
use Rattle.qm_kinds.specs.declared.refusal.Refusal.TheVariants.{WrongKind}
use Rattle.qm_model.specs.Outcome.{first_refusal, refused_where}
use Rattle.qm_rules.proofs.settings.change_refusal.Goals as goal

pub returns : goal.returns
returns c = λ s has.
    let kind = c.refused_where.ensures ∙ ap (λ b. refused_where b WrongKind) c.is_change_of_other_kind.ensures in
    let form = c.refused_form.ensures s has in
    let characteristics = c.refused_characteristics.ensures s has in
    c.first_refusal.ensures ∙ (λ t. first_refusal (kind t ∷ form t ∷ characteristics t ∷ []))
