use Rattle.std.proofs.Common.{◌∙◌}
use Rattle.qm_store.proofs.Faults.{found_is_damage, held_is_open, held_is_sound}
use Rattle.qm_store.proofs.laws.held_files_load.Goals as goal

pub returns-clause-damaged : goal.returns-clause-damaged
returns-clause-damaged c = found_is_damage

pub returns-clause-undamaged : goal.returns-clause-undamaged
returns-clause-undamaged c =
    held_is_sound (λ file masters place log are damaged. c.masters_are_judged_once.ensures.sound file masters place c.queue_files_read_one_way.ensures log are damaged)

pub returns-clause-formatted : goal.returns-clause-formatted
returns-clause-formatted c files r byte holds told = told.1 (told.0 ∙ held_is_open files r holds)
