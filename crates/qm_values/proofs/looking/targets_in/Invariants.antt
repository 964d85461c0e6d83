use Rattle.std.proofs.Common.{◌≡◌, ◌++◌, length}
use Rattle.qm_values.specs.Looking.{targets_in}
use Rattle.qm_values.proofs.looking.targets_in.Given as goal

abbrev pub invariant-loop-rest : goal.invariant-loop-rest
invariant-loop-rest l = l.found.items ++ targets_in l.rest ≡ targets_in l.items

abbrev pub decreases-loop-rest : goal.decreases-loop-rest
decreases-loop-rest l = length l.rest
