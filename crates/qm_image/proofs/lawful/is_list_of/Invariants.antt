use Rattle.std.proofs.Common.{◌≡◌, ◌≤◌, length, take}
use Rattle.qm_image.proofs.Listed.{named}
use Rattle.qm_image.proofs.lawful.is_list_of.Given as goal

-- the first names are those of the nodes so far
abbrev pub invariant-loop-node : goal.invariant-loop-node
invariant-loop-node l = record {
  few : l.found ≤ length l.names;
  same : take l.found l.names ≡ named l.names (take l.node-index l.nodes);
}
