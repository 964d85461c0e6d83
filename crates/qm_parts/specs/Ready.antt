-- The jobs that are ready for a queue, and the rows of their keys.
use Rattle.std.specs.Prelude.{◌≡◌, ◌<◌, ◌≤◌, ◌+◌, ◌==◌, ℕ, false, if◌then◌else◌, List, length, Option, None, Some, IfSome, slice_index_or, option_and_then}
use Rattle.qm_model.specs.Common.{Entry, Queue, entry_numbered, fits, no_system}
use Rattle.qm_match.specs.Keys.{key_of, schedule_of}
use Rattle.qm_match.specs.declared.order.Key.{Key}
use Rattle.qm_ready.specs.Rows.{Row, key_numbered}
use Rattle.qm_parts.specs.Rooms.{rooms_of, HaveRoom, AreBounds}
use Rattle.qm_parts.specs.Tables.{Tables, with_tables}

-- the key of a job, where it fits the queue
abbrev pub key_where_ready : Tables → Queue → Entry → Option Key
key_where_ready t q e = if fits (with_tables no_system t) e q then Some (key_of e) else None

-- the key of the job of a number, where it is there and fits the queue
abbrev pub ready_key : Tables → Queue → ℕ → Option Key
ready_key t q number = option_and_then (key_where_ready t q) (entry_numbered number t.entries)

-- the row goes as the queue takes its jobs, and under each number it has what is wanted there
pub record IsRowOf (q : Queue) (wanted : ℕ → Option Key) (row : Row) : Type 0 where
  pub schedule : row.schedule ≡ schedule_of q
  pub keys : (number : ℕ) → key_numbered number row.keys ≡ wanted number

-- the row has just the keys of the jobs that fit the queue; that of a generic queue has none
abbrev pub HasReady : Tables → Queue → Row → Type 0
HasReady t q row = IsRowOf q (ready_key t q) row

-- each queue has its row at its place; further rows are for queues that come
abbrev pub AreRowsOf : (Queue → ℕ → Option Key) → List Queue → List Row → Type 0
AreRowsOf wanted queues rows = (place : ℕ) (q : Queue) (row : Row) → place < length queues
    → IsRowOf (slice_index_or queues place q) (wanted (slice_index_or queues place q)) (slice_index_or rows place row)

-- the row of each queue has just the keys of the jobs that fit the queue; that of a generic queue has none
abbrev pub AreReady : Tables → List Row → Type 0
AreReady t rows = AreRowsOf (ready_key t) t.queues rows

-- what is wanted, but that nothing is under this number
abbrev pub without_number : ℕ → (ℕ → Option Key) → ℕ → Option Key
without_number n wanted number = if n == number then None else wanted number

-- the same, but that no row has the job of this number
abbrev pub AreReadyBut : ℕ → Tables → List Row → Type 0
AreReadyBut n t rows = AreRowsOf (λ q. without_number n (ready_key t q)) t.queues rows

-- the row has what is wanted, but that under one number it has an old key, or none
pub record IsStale (n : ℕ) (old : Option Key) (q : Queue) (wanted : ℕ → Option Key) (row : Row) : Type 0 where
  pub schedule : row.schedule ≡ schedule_of q
  pub others : (number : ℕ) → (n == number) ≡ false → key_numbered number row.keys ≡ wanted number
  pub stale : IfSome (key_numbered n row.keys) (λ key. old ≡ Some key)

-- the rows have the jobs that are ready, but that one of them they have by an old key, or not
abbrev pub AreStale : ℕ → Option Key → Tables → List Row → Type 0
AreStale n old t rows = (place : ℕ) (q : Queue) (row : Row) → place < length t.queues
    → IsStale n old (slice_index_or t.queues place q) (ready_key t (slice_index_or t.queues place q)) (slice_index_or rows place row)

-- a change of a queue that leaves its name, its kind and its targets
pub record LeavesKind (change : Queue → Queue) : Type 0 where
  pub name : (q : Queue) → (change q).name ≡ q.name
  pub kind : (q : Queue) → (change q).kind ≡ q.kind
  pub targets : (q : Queue) → (change q).targets ≡ q.targets

-- the room that each row had it has
abbrev pub KeepsRoom : List Row → List Row → Type 0
KeepsRoom old new = rooms_of new ≡ rooms_of old

-- the rows have the keys that they had, and no less room
pub record KeepsKeys (old new : List Row) : Type 0 where
  pub count : length new ≡ length old
  pub schedules : (place : ℕ) (row : Row) → place < length old → (slice_index_or new place row).schedule ≡ (slice_index_or old place row).schedule
  pub keys : (place : ℕ) (row : Row) → place < length old → (slice_index_or new place row).keys ≡ (slice_index_or old place row).keys
  pub room : (place : ℕ) → place < length old → slice_index_or (rooms_of old) place 0 ≤ slice_index_or (rooms_of new) place 0

-- The rows are those of the jobs that are ready, there is one for each queue and for so many more, and each has room for every job
-- that may come to its queue. There are as many bounds as rows.
pub record AreKept (t : Tables) (rows : List Row) (most : List (Option ℕ)) (more_queues : ℕ) : Type 0 where
  pub queues : more_queues ≤ t.spare_queues
  pub enough : length t.queues + more_queues ≤ length rows
  pub bounded : length most ≡ length rows
  pub room : HaveRoom t.queues t.entries (rooms_of rows)
  pub bounds : AreBounds t.queues t.entries most
  pub ready : AreReady t rows
