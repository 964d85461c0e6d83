use Rattle.std.proofs.Common.{◌≡◌, ◌∙◌, true, sym, ap, refl}
use Rattle.qm_restore.specs.Restoring.{named_by}
use Rattle.qm_restore.specs.Site.{are_nodes}
use Rattle.qm_restore.proofs.ProperNodes.{proper_nodes, not_nodes}
use Rattle.qm_restore.proofs.rows.nodes_in.Goals as goal

pub returns-then-not-are_nodes-clause-none : goal.returns-then-not-are_nodes-clause-none
returns-then-not-are_nodes-clause-none c =
    (refl, not_nodes (named_by c.args.body.now) (sym (ap are_nodes c.named_by-nodes.ensures) ∙ sym c.are_nodes.ensures ∙ c.if-not-are_nodes.true))

pub returns-clause-nodes : goal.returns-clause-nodes
returns-clause-nodes c =
    let passes : are_nodes (named_by c.args.body.now) ≡ true = sym (ap are_nodes c.named_by-nodes.ensures) ∙ sym c.are_nodes.ensures ∙ c.if-not-are_nodes.false in
    (c.in_ok-nodes.ensures.items ∙ c.named_by-nodes.ensures, proper_nodes (named_by c.args.body.now) passes)
