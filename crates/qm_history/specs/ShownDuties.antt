-- What an answer shows of runs, whatever the disks tell.
-- OpenVMS System Services Reference Manual, $GETQUI, on executing jobs.
use Rattle.std.specs.Prelude.{List, All}
use Rattle.std.specs.Ordering.{nat_cmp}
use Rattle.qm_model.specs.Common.{Duty, IsInOrder}
use Rattle.qm_model.specs.Duties.{HasProperWork}
use Rattle.qm_history.specs.declared.call.Answer.{Answer}
use Rattle.qm_history.specs.declared.call.Answer.TheVariants as answer

-- each run once, by number, and no work that can't be carried out
pub record AreShown (shown : List Duty) : Type 0 where
  pub order : IsInOrder nat_cmp (λ (d : Duty). d.run) shown
  pub proper : All HasProperWork shown

abbrev pub ShowsDuties : Answer → Type 0
ShowsDuties (answer.Duties took moment shown) = AreShown shown
ShowsDuties told = Unit {0}
