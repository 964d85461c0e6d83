-- The keys that are gathered for a row.
use Rattle.std.specs.Prelude.{◌≡◌, ◌≤◌, ℕ, false, List, map, filter, count_by, slice_index_or}
use Rattle.qm_model.specs.Common.{Entry, Queue, System, fits, is_generic}
use Rattle.qm_match.specs.Keys.{key_of}
use Rattle.qm_match.specs.declared.order.Key.{Key}
use Rattle.qm_parts.specs.Tables.{Tables, with_tables}

-- no more of these jobs fit the queue than keys have room
abbrev pub HasRoomForKeys : Tables → Queue → List Entry → ℕ → Type 0
HasRoomForKeys t q jobs spare = (s : System) → count_by (λ e. fits (with_tables s t) e q) jobs ≤ spare

-- the keys are those of the jobs among these that fit the queue, one behind the other
abbrev pub AreKeysOf : Tables → Queue → List Entry → List Key → Type 0
AreKeysOf t q jobs keys = (s : System) → keys ≡ map key_of (filter (λ e. fits (with_tables s t) e q) jobs)

-- the queue at this place runs jobs itself
abbrev pub IsExecutionAt : List Queue → ℕ → Type 0
IsExecutionAt queues place = (any : Queue) → is_generic (slice_index_or queues place any).kind ≡ false
