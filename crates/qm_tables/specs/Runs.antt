-- Runs that have begun and haven't ended: what the callers of their table see, and what the calls make of it.
use Rattle.std.specs.Prelude.{ℕ, ◌==◌, nat_lt, not, List, find, filter, count_by, Option, bytes_eq}
use Rattle.qm_model.specs.Common.{Run, inserted}

-- the runs in order of their numbers, the number of the next one, and how many more have room
pub record Begun : Type 0 where
  pub runs : List Run
  pub next : ℕ
  pub spare : ℕ

-- the run of a number
abbrev pub run_numbered : ℕ → List Run → Option Run
run_numbered number runs = find (λ r. r.run == number) runs

-- one run more, in its place by number
abbrev pub with_run : Run → List Run → List Run
with_run run runs = inserted (λ a b. nat_lt a.run b.run) run runs

-- the runs but that of a number
abbrev pub without_run : ℕ → List Run → List Run
without_run number runs = filter (λ r. not (r.run == number)) runs

-- a run of this number
abbrev pub new_run : ℕ → ℕ → List ℕ → List ℕ → Run
new_run number entry queue node = record { run = number; entry = entry; queue = queue; node = node }

-- how many runs a queue has, each of which takes one of its places
abbrev pub places_in_use : List ℕ → List Run → ℕ
places_in_use queue runs = count_by (λ r. bytes_eq r.queue queue) runs
