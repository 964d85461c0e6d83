use Rattle.std.proofs.Common.{◌≡◌, ◌&&◌, false, take, bytes_eq}
use Rattle.std.specs.List.{list_any}
use Rattle.qm_parts.proofs.fitting.some_up.Given as goal

-- none of those that were passed is it
abbrev pub invariant-loop-node : goal.invariant-loop-node
invariant-loop-node l = list_any (λ n. bytes_eq n.name l.name && n.up) (take l.node-index l.nodes) ≡ false
