use Rattle.qm_history.proofs.HistoryLemmas.{same_course, course_behind}
use Rattle.qm_history.proofs.histories.courses_are_of_own_turns.Goals as goal

pub returns-clause-own : goal.returns-clause-own
returns-clause-own c = same_course

pub returns-clause-behind : goal.returns-clause-behind
returns-clause-behind c = course_behind
