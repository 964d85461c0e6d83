use Rattle.std.proofs.Common.{◌≡◌, ◌++◌, length}
use Rattle.qm_dcl.specs.Lists.{values_ahead, nodes_said}
use Rattle.qm_dcl.proofs.lists.nodes_ahead.Given as goal

abbrev pub invariant-loop-rest : goal.invariant-loop-rest
invariant-loop-rest l = l.found.items ++ nodes_said l.text (values_ahead l.rest) ≡ nodes_said l.text (values_ahead l.parts)

abbrev pub decreases-loop-rest : goal.decreases-loop-rest
decreases-loop-rest l = length l.rest
