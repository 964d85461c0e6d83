use Rattle.std.proofs.Common.{◌≡◌, ◌++◌, length}
use Rattle.qm_script.specs.Extents.{joined}
use Rattle.qm_script.proofs.extent.joined.Given as goal

-- the text so far, and what is left of it
abbrev pub invariant-loop-rest : goal.invariant-loop-rest
invariant-loop-rest l = l.whole.items ++ joined l.rest ≡ joined l.text

abbrev pub decreases-loop-rest : goal.decreases-loop-rest
decreases-loop-rest l = length l.rest
