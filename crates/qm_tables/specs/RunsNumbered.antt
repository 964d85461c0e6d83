-- How runs are kept.
use Rattle.std.specs.Prelude.{◌<◌, ◌≤◌, ℕ, List, length, All}
use Rattle.std.specs.Ordering.{nat_cmp}
use Rattle.qm_model.specs.Common.{Run, IsInOrder}
use Rattle.qm_tables.specs.declared.runs.limits.TheConstants.{MOST_RUNS}

-- the runs stand by number, all below the next one, and 32 bits count them
pub record AreNumbered (runs : List Run) (next : ℕ) : Type 0 where
  pub order : IsInOrder nat_cmp (λ r. r.run) runs
  pub below : All (λ r. r.run < next) runs
  pub few : length runs ≤ MOST_RUNS
