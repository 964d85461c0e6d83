use Rattle.qm_history.proofs.StartLemmas.{starts_sound, starts_system, hold_one}
use Rattle.qm_history.proofs.crashes.programs_go_on_from_what_is_left.Goals as goal

pub returns-clause-sound : goal.returns-clause-sound
returns-clause-sound c = starts_sound

pub returns-clause-system : goal.returns-clause-system
returns-clause-system c files log v one_log one_record =
    starts_system one_log one_record files log v

pub returns-clause-one_system : goal.returns-clause-one_system
returns-clause-one_system c files a b one_log one_record = hold_one one_log one_record files a b
