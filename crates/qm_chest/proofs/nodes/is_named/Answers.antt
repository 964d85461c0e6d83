use Rattle.std.proofs.Common.{ℕ, List, Option, ◌∙◌, ap, sym}
use Rattle.qm_history.specs.Common.{is_among, node_at}
use Rattle.qm_chest.specs.Taking.{may_by}
use Rattle.qm_chest.proofs.nodes.is_named.Goals as goal

pub returns-in-Some : goal.returns-in-Some
returns-in-Some c =
    c.is_listed.ensures
    ∙ ap (λ (o : Option (List (List ℕ))). is_among (may_by c.args.nodes.now c.args.may.now o) (node_at c.args.node c.args.nodes.now)) (sym c.in-Some.ensures)
