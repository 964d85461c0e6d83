use Rattle.qm_scans.proofs.Tells.{turn_tells}
use Rattle.qm_scans.proofs.laws.answers_tell_of_scans.Goals as goal

pub returns : goal.returns
returns c = λ s v asked turn. (turn_tells v.before asked v.turn turn).scans s
