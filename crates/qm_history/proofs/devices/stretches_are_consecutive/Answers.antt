use Rattle.qm_history.proofs.ConsecutiveLemmas.{stretches_consecutive, stretches_whole}
use Rattle.qm_history.proofs.devices.stretches_are_consecutive.Goals as goal

pub returns-clause-first : goal.returns-clause-first
returns-clause-first c = stretches_consecutive c.print_jobs_report_each_block.ensures.next_block

pub returns-clause-whole : goal.returns-clause-whole
returns-clause-whole c = stretches_whole c.print_jobs_report_each_block.ensures.next_block
