use Rattle.qm_history.proofs.OneTurnLemmas.{turn_one, turns_one}
use Rattle.qm_history.proofs.turns.turns_without_fault_are_one.Goals as goal

pub returns-clause-computed : goal.returns-clause-computed
returns-clause-computed c = turn_one

pub returns-clause-one : goal.returns-clause-one
returns-clause-one c = turns_one
