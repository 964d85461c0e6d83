-- When a row is that of jobs.
use Rattle.std.specs.Prelude.{◌≡◌, ℕ, List, filter, option_map}
use Rattle.qm_model.specs.Common.{Entry, Queue, System, entry_numbered, fits}
use Rattle.qm_match.specs.declared.order.Key.{Key}
use Rattle.qm_match.specs.declared.order.Schedule.{Schedule}
use Rattle.qm_match.specs.Keys.{key_of}
use Rattle.qm_ready.specs.Rows.{IsRow, key_numbered}

-- the row has the keys of these jobs, and no others
pub record IsRowOf (schedule : Schedule) (jobs : List Entry) (keys : List Key) : Type 0 where
  pub row : IsRow schedule keys
  pub same : (number : ℕ) → key_numbered number keys ≡ option_map key_of (entry_numbered number jobs)

-- the jobs that a queue can start as soon as it has a place
abbrev pub fitting : System → Queue → List Entry
fitting s q = filter (λ e. fits s e q) s.entries
