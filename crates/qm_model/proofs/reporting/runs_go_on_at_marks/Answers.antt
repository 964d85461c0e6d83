use Rattle.qm_model.proofs.ReportLemmas.{go_on_at_marks}
use Rattle.qm_model.proofs.MarkLemmas.{begin_at_marks}
use Rattle.qm_model.proofs.reporting.runs_go_on_at_marks.Goals as goal

pub returns-clause-places : goal.returns-clause-places
returns-clause-places c = go_on_at_marks

pub returns-clause-values : goal.returns-clause-values
returns-clause-values c = begin_at_marks
