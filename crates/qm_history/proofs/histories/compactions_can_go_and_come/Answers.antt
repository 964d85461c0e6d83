use Rattle.qm_history.proofs.HistoryLemmas.{compaction_goes, compaction_comes, compaction_may_come, visits_append, visits_with}
use Rattle.qm_history.proofs.histories.compactions_can_go_and_come.Goals as goal

pub returns-clause-go : goal.returns-clause-go
returns-clause-go c = compaction_goes

pub returns-clause-come : goal.returns-clause-come
returns-clause-come c = compaction_comes

pub returns-clause-with_it : goal.returns-clause-with_it
returns-clause-with_it c = visits_with

pub returns-clause-without_it : goal.returns-clause-without_it
returns-clause-without_it c = visits_append

pub returns-clause-may_come : goal.returns-clause-may_come
returns-clause-may_come c = compaction_may_come
