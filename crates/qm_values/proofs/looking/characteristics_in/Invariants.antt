use Rattle.std.proofs.Common.{◌≡◌, ◌++◌, length}
use Rattle.qm_values.specs.Looking.{characteristics_in}
use Rattle.qm_values.proofs.looking.characteristics_in.Given as goal

abbrev pub invariant-loop-rest : goal.invariant-loop-rest
invariant-loop-rest l = l.found.items ++ characteristics_in l.rest ≡ characteristics_in l.items

abbrev pub decreases-loop-rest : goal.decreases-loop-rest
decreases-loop-rest l = length l.rest
