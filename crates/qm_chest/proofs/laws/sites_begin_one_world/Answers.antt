use Rattle.qm_chest.proofs.Beginning.{begins_some, begins_one}
use Rattle.qm_chest.proofs.laws.sites_begin_one_world.Goals as goal

pub returns-clause-begins : goal.returns-clause-begins
returns-clause-begins c = begins_some c.site_files_are_accepted.ensures

pub returns-clause-one : goal.returns-clause-one
returns-clause-one c =
    begins_one c.site_files_are_accepted.ensures c.one_list.ensures c.no_record_begins_another.ensures c.files_that_hold_a_log_begin_a_world.ensures.one c.files_that_hold_a_log_begin_a_world.ensures.sound
