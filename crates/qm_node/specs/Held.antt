-- What a node keeps of its runs, as its callers see it.
use Rattle.std.specs.Prelude.{ℕ, List, Option}
use Rattle.qm_history.specs.Common.{Report, Duty}
use Rattle.qm_model.specs.Kept.{KeptRuns, with_duties}

-- the runs, and the report of the step that the next one made, until that is told
pub record HeldRuns : Type 0 where
  pub kept : KeptRuns
  pub made : Option Report

-- behind what the fetch of this number showed, with so many steps to follow
abbrev pub with_learned : ℕ → ℕ → List Duty → HeldRuns → HeldRuns
with_learned fetch steps duties held = record held { kept = with_duties fetch held.kept steps duties }
