use Rattle.qm_model.proofs.ReportLemmas.{end_once}
use Rattle.qm_model.proofs.reporting.runs_end_once.Goals as goal

pub returns : goal.returns
returns c = end_once
