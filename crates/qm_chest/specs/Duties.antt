-- What an answer shows of runs, whatever the disks tell.
-- OpenVMS System Services Reference Manual, $GETQUI, on executing jobs.
use Rattle.std.specs.Prelude.{◌≡◌, ℕ, List}
use Rattle.qm_history.specs.Common.{System, Duty, IsConsistent, duties}
use Rattle.qm_history.specs.declared.call.Answer.{Answer}
use Rattle.qm_history.specs.declared.call.Answer.TheVariants as answer

-- they are those of some node of a consistent system
pub record AreOfSome (shown : List Duty) : Type 0 where
  pub system : System
  pub node : List ℕ
  pub known : List ℕ
  pub consistent : IsConsistent system
  pub are : shown ≡ duties system node known

abbrev pub ShowsNodeDuties : Answer → Type 0
ShowsNodeDuties (answer.Duties took moment shown) = AreOfSome shown
ShowsNodeDuties told = Unit {0}
