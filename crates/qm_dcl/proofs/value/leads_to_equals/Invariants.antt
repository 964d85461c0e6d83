use Rattle.std.proofs.Common.{◌≡◌, length}
use Rattle.qm_dcl.specs.Values.{leads_to_equals}
use Rattle.qm_dcl.proofs.value.leads_to_equals.Given as goal

abbrev pub invariant-loop-rest : goal.invariant-loop-rest
invariant-loop-rest l = leads_to_equals l.rest ≡ leads_to_equals l.fn.behind

abbrev pub decreases-loop-rest : goal.decreases-loop-rest
decreases-loop-rest l = length l.rest
