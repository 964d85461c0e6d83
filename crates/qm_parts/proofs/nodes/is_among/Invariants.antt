use Rattle.std.proofs.Common.{◌≡◌, false, take, bytes_eq}
use Rattle.std.specs.List.{list_any}
use Rattle.qm_parts.proofs.nodes.is_among.Given as goal

-- none of those that were passed is it
abbrev pub invariant-loop-other : goal.invariant-loop-other
invariant-loop-other l = list_any (bytes_eq l.name) (take l.other-index l.names) ≡ false
