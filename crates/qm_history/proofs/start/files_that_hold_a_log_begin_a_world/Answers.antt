use Rattle.qm_history.proofs.StartLemmas.{hold_begins, starts_sound, starts_hold, starts_one}
use Rattle.qm_history.proofs.start.files_that_hold_a_log_begin_a_world.Goals as goal

pub returns-clause-begins : goal.returns-clause-begins
returns-clause-begins c = hold_begins

pub returns-clause-sound : goal.returns-clause-sound
returns-clause-sound c = starts_sound

pub returns-clause-holds : goal.returns-clause-holds
returns-clause-holds c = starts_hold

pub returns-clause-one : goal.returns-clause-one
returns-clause-one c files w v one_log one_record = starts_one one_log one_record files w v
