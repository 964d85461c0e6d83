use Rattle.qm_history.proofs.FenceLemmas.{fenced_stays}
use Rattle.qm_history.proofs.histories.fenced_turns_change_nothing.Goals as goal

pub returns : goal.returns
returns c = fenced_stays
