use Rattle.std.proofs.Common.{◌≡◌, ◌++◌, drop, filter, map}
use Rattle.qm_model.specs.Find.{is_among}
use Rattle.qm_chest.proofs.nodes.names_among.Given as goal

abbrev pub invariant-loop-node : goal.invariant-loop-node
invariant-loop-node l = l.found.items ++ filter (is_among l.names) (map (λ n. n.name) (drop l.node-index l.nodes)) ≡ filter (is_among l.names) (map (λ n. n.name) l.nodes)
