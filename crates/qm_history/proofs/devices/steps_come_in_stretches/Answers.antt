use Rattle.std.proofs.Common.{◌∙◌}
use Rattle.qm_history.proofs.StretchLemmas.{course_stretches, course_given}
use Rattle.qm_history.proofs.devices.steps_come_in_stretches.Goals as goal

pub returns-clause-stretches : goal.returns-clause-stretches
returns-clause-stretches c read extent = course_stretches read extent

pub returns-clause-given : goal.returns-clause-given
returns-clause-given c read extent = course_given read extent

pub returns-clause-next_block : goal.returns-clause-next_block
returns-clause-next_block c k print blocks handed = handed ∙ c.print_jobs_report_each_block.ensures.next_block k.work k.place print
