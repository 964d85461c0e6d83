use Rattle.std.proofs.Common.{◌≡◌, length}
use Rattle.std.specs.Option.{option_or, option_copied}
use Rattle.qm_dcl.specs.Lists.{behind_last}
use Rattle.qm_dcl.proofs.lists.behind_last.Given as goal

abbrev pub invariant-loop-rest : goal.invariant-loop-rest
invariant-loop-rest l = option_or (behind_last l.list l.rest) (option_copied l.found) ≡ behind_last l.list l.parts

abbrev pub decreases-loop-rest : goal.decreases-loop-rest
decreases-loop-rest l = length l.rest
