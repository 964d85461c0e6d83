use Rattle.std.proofs.Common.{◌≡◌, ◌++◌, map, take, drop}
use Rattle.qm_parts.specs.Nodes.{changed_node}
use Rattle.qm_parts.proofs.nodes.change_each.Given as goal

-- the nodes so far are changed
abbrev pub invariant-loop-node : goal.invariant-loop-node
invariant-loop-node l = l.nodes ≡ map (changed_node l.change) (take l.node-index l.initial.nodes) ++ drop l.node-index l.initial.nodes
