use Rattle.std.proofs.Common.{◌≡◌, drop}
use Rattle.qm_restore.specs.Site.{are_distinct}
use Rattle.qm_restore.proofs.nodes.are_distinct.Given as goal

-- what is left decides
abbrev pub invariant-loop-i : goal.invariant-loop-i
invariant-loop-i l = are_distinct (drop l.i l.nodes) ≡ are_distinct l.nodes
