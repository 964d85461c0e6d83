-- What a step of a run that a node keeps hands over and reports.
use Rattle.std.specs.Prelude.{◌≡◌, Some}
use Rattle.qm_history.specs.Common.{Report, KeptRun, KeptRuns, StepEnd, WentOn, DeviceFailed, CutShort, IsEndOf, next_kept, report_told}
use Rattle.qm_symb.specs.Device.{Meaning}
use Rattle.qm_symb.specs.Symbiont.{GoesOn, Fails}

module _ {D : Type 0} (m : Meaning D) where
  -- The symbiont hands over the blocks before the report that it gives, each to the device of the run's queue, or its device
  -- fails at one of them. A run that is cut short is so without its symbiont.
  abbrev pub Comes : KeptRun → StepEnd → Report → D → D → Type 0
  Comes k WentOn told old new = GoesOn m k.work k.place told old new
  Comes k DeviceFailed told old new = Fails m k.work k.place told old new
  Comes k CutShort told old new = new ≡ old

  -- a step of a run, with its report: it ends as one of that run can
  pub record IsStep (k : KeptRun) (told : Report) (old new : D) : Type 0 where
    pub end : StepEnd
    pub can_end : IsEndOf k.aborting end
    pub told_is : told ≡ report_told k end
    pub comes : Comes k end told old new

  -- the run that steps next makes a step
  abbrev pub NextSteps : KeptRuns → Report → D → D → Type 0
  NextSteps kept told old new = (k : KeptRun) × (next_kept kept ≡ Some k) × IsStep k told old new
