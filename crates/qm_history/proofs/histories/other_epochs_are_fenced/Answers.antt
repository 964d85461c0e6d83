use Rattle.qm_history.proofs.HistoryLemmas.{turn_stays, turn_fenced}
use Rattle.qm_history.proofs.histories.other_epochs_are_fenced.Goals as goal

pub returns-clause-world : goal.returns-clause-world
returns-clause-world c = turn_stays

pub returns-clause-fenced : goal.returns-clause-fenced
returns-clause-fenced c = turn_fenced
