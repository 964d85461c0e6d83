use Rattle.qm_model.proofs.StartLemmas.{are_starts, choice_fits, choice_is_first}
use Rattle.qm_model.proofs.ChoiceLemmas.{entry_is_there, queue_is_there, choice_is_free, choice_has_number, queue_is_first, queue_is_first_by_name}
use Rattle.qm_model.proofs.settle.first_jobs_are_started.Goals as goal

pub returns-clause-starts : goal.returns-clause-starts
returns-clause-starts c = are_starts

pub returns-clause-fits : goal.returns-clause-fits
returns-clause-fits c = choice_fits

pub returns-clause-first : goal.returns-clause-first
returns-clause-first c = choice_is_first

pub returns-clause-entry_there : goal.returns-clause-entry_there
returns-clause-entry_there c = entry_is_there

pub returns-clause-queue_there : goal.returns-clause-queue_there
returns-clause-queue_there c = queue_is_there

pub returns-clause-has_place : goal.returns-clause-has_place
returns-clause-has_place c = choice_is_free

pub returns-clause-numbers_left : goal.returns-clause-numbers_left
returns-clause-numbers_left c = choice_has_number

pub returns-clause-first_queue : goal.returns-clause-first_queue
returns-clause-first_queue c = queue_is_first

pub returns-clause-first_by_name : goal.returns-clause-first_by_name
returns-clause-first_by_name c s choice is ordered = queue_is_first_by_name s choice ordered is
