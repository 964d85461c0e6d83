use Rattle.qm_history.proofs.ReachingLemmas.{course_reaches, course_goes_on, course_reaches_on}
use Rattle.qm_history.proofs.courses.begun_courses_go_on.Goals as goal

pub returns-clause-reached : goal.returns-clause-reached
returns-clause-reached c read = course_reaches read

pub returns-clause-goes_on : goal.returns-clause-goes_on
returns-clause-goes_on c read = course_goes_on read

pub returns-clause-reaches_on : goal.returns-clause-reaches_on
returns-clause-reaches_on c read = course_reaches_on read
