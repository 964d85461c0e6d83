use Rattle.std.proofs.Common.{refl}
use Rattle.qm_program.proofs.NewSite.{begins_one, new_begins}
use Rattle.qm_program.proofs.making.new_sites_begin_one_world.Goals as goal

pub returns : goal.returns
returns c = record {
  begins = new_begins;
  one = begins_one c.one_list.ensures c.no_record_begins_another.ensures c.files_that_hold_a_log_begin_a_world.ensures.one;
  system = λ names. refl;
}
