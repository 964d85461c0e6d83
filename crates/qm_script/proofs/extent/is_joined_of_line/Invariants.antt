use Rattle.std.proofs.Common.{◌≡◌, length}
use Rattle.std.specs.List.{list_all}
use Rattle.qm_model.specs.Script.{is_line_byte}
use Rattle.qm_script.specs.Extents.{joined}
use Rattle.qm_script.proofs.extent.is_joined_of_line.Given as goal

-- the bytes so far are of a line
abbrev pub invariant-loop-rest : goal.invariant-loop-rest
invariant-loop-rest l = list_all is_line_byte (joined l.rest) ≡ list_all is_line_byte (joined l.text)

abbrev pub decreases-loop-rest : goal.decreases-loop-rest
decreases-loop-rest l = length l.rest
