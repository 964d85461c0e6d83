use Rattle.qm_history.proofs.ReportLemmas.{course_reports}
use Rattle.qm_history.proofs.courses.reports_are_of_steps.Goals as goal

pub returns : goal.returns
returns c read extent w turns node lines faults h = course_reports read extent w turns node lines faults h
