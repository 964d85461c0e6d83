use Rattle.std.proofs.Common.{◌≡◌, length}
use Rattle.qm_values.specs.Looking.{value_in}
use Rattle.qm_values.proofs.looking.value_in.Given as goal

abbrev pub invariant-loop-rest : goal.invariant-loop-rest
invariant-loop-rest l = value_in l.code l.rest ≡ value_in l.code l.items

abbrev pub decreases-loop-rest : goal.decreases-loop-rest
decreases-loop-rest l = length l.rest
