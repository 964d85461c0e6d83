use Rattle.std.proofs.Common.{◌∙◌, set, ap, sym, arith}
use Rattle.std.proofs.lemmas.List.Edits.{map_over_more}
use Rattle.qm_kinds.specs.declared.system.Node.{Node}
use Rattle.qm_parts.specs.Nodes.{changed_node}
use Rattle.qm_parts.proofs.nodes.change_each.Goals as goal

pub loop-node-preserved : goal.loop-node-preserved
loop-node-preserved c =
    ap (set c.loop-node.nodes c.loop-node.node-index) c.change_one.ensures
    ∙ ap (λ (n : Node). set c.loop-node.nodes c.loop-node.node-index (changed_node c.args.change.now n)) (sym c.node-item.is)
    ∙ map_over_more (changed_node c.args.change.now) c.args.nodes.now c.loop-node.nodes c.loop-node.node-index c.node-item.result (omega (arith, c.loop-node-test.true, c.loop-node.auto.nodes)) c.loop-node.invariant c.node-item.is
