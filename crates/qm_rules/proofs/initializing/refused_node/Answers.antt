use Rattle.std.proofs.Common.{◌∙◌, ap, sym, not, bytes_eq}
use Rattle.std.specs.List.{list_any}
use Rattle.qm_kinds.specs.declared.refusal.Refusal.TheVariants.{NoSuchNode}
use Rattle.qm_model.specs.Common.{Node, refused_where}
use Rattle.qm_rules.proofs.initializing.refused_node.Goals as goal

pub returns-in-Some : goal.returns-in-Some
returns-in-Some c = λ s nodes.
    let there = c.is_node.ensures ∙ sym (ap (list_any (λ (n : Node). bytes_eq n.name c.in-Some.name)) nodes) in
    rw c.in-Some.is (c.refused_where.ensures ∙ ap (λ b. refused_where (not b) (NoSuchNode c.in-Some.name)) there)
