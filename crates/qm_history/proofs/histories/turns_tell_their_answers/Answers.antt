use Rattle.qm_history.proofs.TextLemmas.{visit_told}
use Rattle.qm_history.proofs.histories.turns_tell_their_answers.Goals as goal

pub returns : goal.returns
returns c = visit_told
