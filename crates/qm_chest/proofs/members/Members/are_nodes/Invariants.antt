use Rattle.std.proofs.Common.{◌≡◌, drop}
use Rattle.qm_chest.specs.Nodes.{are_called}
use Rattle.qm_chest.proofs.members.Members.are_nodes.Given as goal

abbrev pub invariant-loop-place : goal.invariant-loop-place
invariant-loop-place l = are_called (drop l.place l.nodes) (drop l.place l.self.names.items) ≡ are_called l.nodes l.self.names.items
