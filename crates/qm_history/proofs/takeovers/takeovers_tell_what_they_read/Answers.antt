use Rattle.qm_history.proofs.TellingLemmas.{turn_tells}
use Rattle.qm_history.proofs.takeovers.takeovers_tell_what_they_read.Goals as goal

pub returns : goal.returns
returns c = turn_tells
