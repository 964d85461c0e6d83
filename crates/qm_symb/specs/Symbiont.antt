-- What a step of a symbiont leaves, from a place of a run's work on.
use Rattle.std.specs.Prelude.{◌≡◌, ◌⊎◌, ◌+◌, ◌<◌, ◌≤◌, length}
use Rattle.qm_model.specs.Common.{Work, Place, Report, course, next_report, blocks_before_report, TEXT_LIMIT}
use Rattle.qm_kinds.specs.declared.work.Report.TheVariants.{Done, Mark}
use Rattle.qm_symb.specs.Device.{Meaning, Takes, TakesNotAll, OneFailed, IsQuiet}
use Rattle.qm_symb.specs.declared.symbiont.TheConstants.{DEVICE_FAULT_STATUS}

-- a page has a row and a column between its margins, and the text isn't too long
pub record IsWithinLimits (w : Work) : Type 0 where
  pub has_rows : w.shape.top + w.shape.bottom < w.shape.length
  pub has_columns : w.shape.left + w.shape.right < w.shape.width
  pub text : length w.text ≤ TEXT_LIMIT

-- a fact of the place where a run goes on behind a report, if it does
abbrev pub IfGoesOn : Report → (Place → Type 0) → Type 0
IfGoesOn (Mark value next) fact = fact next
IfGoesOn (Done status) fact = Unit {0}

module _ {D : Type 0} (m : Meaning D) where
  -- the next report is given, and the blocks before it were handed to the work's device
  pub record GoesOn (w : Work) (at : Place) (report : Report) (old new : D) : Type 0 where
    pub next : report ≡ next_report (course w at)
    pub blocks : Takes m w.run w.device (blocks_before_report (course w at)) old new
    pub quiet : IsQuiet m old new

  -- the device failed at one of the blocks before the next report, and the run ends with the status of that
  pub record Fails (w : Work) (at : Place) (report : Report) (old new : D) : Type 0 where
    pub ended : report ≡ Done DEVICE_FAULT_STATUS
    pub blocks : TakesNotAll m w.run w.device (blocks_before_report (course w at)) old new
    pub rose : OneFailed m old new

  -- a step that gives a report
  abbrev pub Steps : Work → Place → Report → D → D → Type 0
  Steps w at report old new = GoesOn w at report old new ⊎ Fails w at report old new
