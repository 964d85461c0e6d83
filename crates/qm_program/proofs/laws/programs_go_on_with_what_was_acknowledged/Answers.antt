use Rattle.qm_program.proofs.Surviving.{goes_on_behind, goes_on_in, goes_on_within}
use Rattle.qm_program.proofs.laws.programs_go_on_with_what_was_acknowledged.Goals as goal

pub returns-clause-within : goal.returns-clause-within
returns-clause-within c = goes_on_within c.files_that_hold_a_log_begin_a_world.ensures.begins c.programs_go_on_after_crashes.ensures.acknowledged

pub returns-clause-behind : goal.returns-clause-behind
returns-clause-behind c =
    goes_on_behind c.files_that_hold_a_log_begin_a_world.ensures.begins c.acknowledged_records_stay.ensures.acknowledged c.histories_are_events.ensures.world

pub returns-clause-moment : goal.returns-clause-moment
returns-clause-moment c =
    goes_on_in c.files_that_hold_a_log_begin_a_world.ensures.begins c.programs_go_on_after_crashes.ensures.acknowledged c.acknowledged_records_stay.ensures.acknowledged
    c.histories_are_events.ensures.world c.crashes_of_histories_are_of_turns.ensures.moment
