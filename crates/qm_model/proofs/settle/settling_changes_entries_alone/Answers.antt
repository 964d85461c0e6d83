use Rattle.qm_model.proofs.SettlingLemmas.{rest_stays, numbers_taken, others_stay}
use Rattle.qm_model.proofs.StartedLemmas.{runs_by_number, states_change, each_is_started}
use Rattle.qm_model.proofs.settle.settling_changes_entries_alone.Goals as goal

pub returns-clause-rest : goal.returns-clause-rest
returns-clause-rest c = rest_stays

pub returns-clause-numbers : goal.returns-clause-numbers
returns-clause-numbers c = numbers_taken

pub returns-clause-runs : goal.returns-clause-runs
returns-clause-runs c = runs_by_number

pub returns-clause-others : goal.returns-clause-others
returns-clause-others c = others_stay

pub returns-clause-states_alone : goal.returns-clause-states_alone
returns-clause-states_alone c = states_change

pub returns-clause-each_runs : goal.returns-clause-each_runs
returns-clause-each_runs c = each_is_started
