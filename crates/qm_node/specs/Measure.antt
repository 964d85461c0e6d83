-- How many reports are left to the runs of a round.
use Rattle.std.specs.Prelude.{ℕ, List, length, sum_by}
use Rattle.std.specs.Option.{option_map_or}
use Rattle.qm_model.specs.Kept.{KeptRun, KeptRuns, run_kept}
use Rattle.qm_model.specs.Reports.{reports}

-- the reports that a run has left, if it is kept
abbrev pub reports_of_run : List KeptRun → ℕ → ℕ
reports_of_run runs run = option_map_or (λ (k : KeptRun). length (reports k.work k.place)) (run_kept run runs) 0

-- the reports that the runs of the round have left together
abbrev pub reports_left : KeptRuns → ℕ
reports_left kept = sum_by (reports_of_run kept.runs) kept.round
