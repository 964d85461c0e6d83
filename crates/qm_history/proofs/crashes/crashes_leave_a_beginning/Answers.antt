use Rattle.qm_history.proofs.CrashLemmas.{left_accepted, left_holds, left_begins, behind_accepted}
use Rattle.qm_history.proofs.crashes.crashes_leave_a_beginning.Goals as goal

pub returns-clause-accepted : goal.returns-clause-accepted
returns-clause-accepted c w t sound legal log = left_accepted c.nodes_keep_their_names.ensures.names w t log sound legal

pub returns-clause-holds : goal.returns-clause-holds
returns-clause-holds c = left_holds

pub returns-clause-beginning : goal.returns-clause-beginning
returns-clause-beginning c w t legal log = left_begins w t log legal

pub returns-clause-behind : goal.returns-clause-behind
returns-clause-behind c w sound log = behind_accepted c.nodes_keep_their_names.ensures.names w log sound
