use Rattle.qm_history.proofs.AfterLemmas.{in_accepted, in_holds, in_moment, behind_in}
use Rattle.qm_history.proofs.crashes.crashes_of_histories_are_of_turns.Goals as goal

pub returns-clause-accepted : goal.returns-clause-accepted
returns-clause-accepted c w turns sound legal log = in_accepted c.nodes_keep_their_names.ensures.names w turns log sound legal

pub returns-clause-holds : goal.returns-clause-holds
returns-clause-holds c = in_holds

pub returns-clause-moment : goal.returns-clause-moment
returns-clause-moment c = in_moment

pub returns-clause-behind : goal.returns-clause-behind
returns-clause-behind c = behind_in
