use Rattle.std.proofs.Common.{◌≡◌, ◌++◌, drop}
use Rattle.qm_history.specs.World.{nodes_where}
use Rattle.qm_chest.specs.Nodes.{is_one}
use Rattle.qm_chest.proofs.nodes.names_where.Given as goal

abbrev pub invariant-loop-place : goal.invariant-loop-place
invariant-loop-place l = l.names.items ++ nodes_where (is_one l.which) (drop l.place l.live) (drop l.place l.nodes) ≡ nodes_where (is_one l.which) l.live l.nodes
