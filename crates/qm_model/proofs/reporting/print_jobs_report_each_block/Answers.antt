use Rattle.qm_model.proofs.MarkLemmas.{print_reports, print_reports_count, next_block}
use Rattle.qm_model.proofs.reporting.print_jobs_report_each_block.Goals as goal

pub returns-clause-reports : goal.returns-clause-reports
returns-clause-reports c = print_reports

pub returns-clause-count : goal.returns-clause-count
returns-clause-count c = print_reports_count

pub returns-clause-next_block : goal.returns-clause-next_block
returns-clause-next_block c = next_block
