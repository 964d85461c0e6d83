-- How many runs each queue has, as it is kept beside the runs.
use Rattle.std.specs.Prelude.{◌≡◌, ◌+◌, ◌-◌, ◌<◌, ◌≤◌, ℕ, List, length, All, if◌then◌else◌, sum_by, bytes_eq}
use Rattle.qm_model.specs.Common.{Run, IsInOrder, name_cmp}
use Rattle.qm_tables.specs.declared.runs.counts.RunCount.{RunCount}
use Rattle.qm_tables.specs.Runs.{places_in_use}

-- the counts, and for how many queues there is room
pub record Counts : Type 0 where
  pub counts : List RunCount
  pub room : ℕ

-- how many runs are counted for a queue
abbrev pub counted_for : List ℕ → List RunCount → ℕ
counted_for queue counts = sum_by (λ c. if bytes_eq c.queue queue then c.runs else 0) counts

-- how many runs are counted in all
abbrev pub counted : List RunCount → ℕ
counted counts = sum_by (λ c. c.runs) counts

-- a queue has one run more
abbrev pub one_more : RunCount → RunCount
one_more c = record c { runs = c.runs + 1 }

-- a queue has one run less
abbrev pub one_less : RunCount → RunCount
one_less c = record c { runs = c.runs - 1 }

-- the counts stand by the names of their queues, and none is 0
pub record AreByQueue (counts : List RunCount) : Type 0 where
  pub order : IsInOrder name_cmp (λ c. c.queue) counts
  pub some : All (λ c. 0 < c.runs) counts

-- one run more of a queue is counted, and none of the others
pub record IsOneMore (queue : List ℕ) (old new : List RunCount) : Type 0 where
  pub each : (name : List ℕ) → counted_for name new ≡ counted_for name old + (if bytes_eq queue name then 1 else 0)
  pub all : counted new ≡ counted old + 1

-- the counts are those of the runs, and there is room for as many
pub record AreCounted (runs : List Run) (kept : Counts) : Type 0 where
  pub each : (queue : List ℕ) → counted_for queue kept.counts ≡ places_in_use queue runs
  pub all : counted kept.counts ≡ length runs
  pub few : length kept.counts ≤ length runs
  pub room : length runs ≤ kept.room
