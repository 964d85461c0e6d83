-- How a database is made.
use Rattle.std.specs.Prelude.{◌≡◌, ◌<◌, ◌≤◌, ◌+◌, ◌-◌, ◌^◌, min, ℕ, IsTrue, List, Result, Ok, Err, map}
use Rattle.qm_history.specs.Common.{Meaning, CrashState, LeavesOnly, size_of, Record, LEAST_CAP, GREATEST_CAP, record_text}
use Rattle.qm_store.specs.Database.{disk_of}
use Rattle.qm_store.specs.Recorded.{IsAtRest, new_database, database_of}
use Rattle.qm_store.specs.declared.closed.Closed.{Closed}
use Rattle.qm_store.specs.declared.fault.WriteFault.{WriteFault}
use Rattle.qm_store.specs.declared.fault.WriteFault.TheVariants.{Disk, Full, NoMemory}

-- a cap that a queue file can have
pub record IsQueueCap (cap : ℕ) : Type 0 where
  pub least : LEAST_CAP ≤ cap
  pub greatest : cap ≤ GREATEST_CAP

-- the spellings of rows
abbrev pub texts_of : List Record → List (List ℕ)
texts_of rows = map record_text rows

-- how many bytes a file of these bodies takes with its closed gate, a number that stands at the end of its type
abbrev pub need_for : List (List ℕ) → ℕ
need_for bodies = min (size_of bodies + 1) (2 ^ 64 - 1)

-- this file reads as before, and a crash leaves of it, at any moment, what it might before
pub record KeepsFile {D : Type 0} (m : Meaning D) (file : ℕ) (old new : D) : Type 0 where
  pub reads : m.seen new file ≡ m.seen old file
  pub no_more : (c : List ℕ) → m.may_leave new file c → m.may_leave old file c
  pub no_fewer : (c : List ℕ) → m.may_leave old file c → m.may_leave new file c
  pub any_moment : LeavesOnly m old new (λ (crashed : CrashState). m.may_leave old file (crashed file))

-- the device holds a new database of these bodies, which no crash can take away
abbrev pub IsWritten : {D : Type 0} → Meaning D → ℕ → List (List ℕ) → D → Type 0
IsWritten m cap bodies disk = IsAtRest m (database_of cap bodies) disk

-- no want of room is told
abbrev pub IsNotFull : {T : Type 0} → Result T WriteFault → Type 0
IsNotFull (Ok done) = Unit {0}
IsNotFull (Err Disk) = Unit {0}
IsNotFull (Err NoMemory) = Unit {0}
IsNotFull (Err (Full need cap)) = ⊥

-- why no database is made
abbrev pub IsNotMade : {D : Type 0} → ℕ → List Record → D → D → WriteFault → Type 0
IsNotMade cap rows old new Disk = need_for (texts_of rows) ≤ cap
IsNotMade cap rows old new NoMemory = Unit {0}
IsNotMade cap rows old new (Full need most) = (most < need) × (need ≡ need_for (texts_of rows)) × (most ≡ cap) × (new ≡ old)

-- What making its files leaves, by the answer. Rows that need more than the cap are too many, and no other ones are.
abbrev pub IsMade : {D T : Type 0} → Meaning D → ℕ → List Record → D → D → Result T WriteFault → Type 0
IsMade m cap rows old new (Ok done) = (need_for (texts_of rows) ≤ cap) × (IsTrue m.tells → IsAtRest m (new_database cap rows) new)
IsMade m cap rows old new (Err fault) = IsNotMade cap rows old new fault

-- the same of the database
abbrev pub Makes : {D : Type 0} → Meaning D → ℕ → List Record → D → Result (Closed D) (D × WriteFault) → Type 0
Makes m cap rows old (Ok closed) = (need_for (texts_of rows) ≤ cap) × (IsTrue m.tells → IsAtRest m (new_database cap rows) (disk_of closed))
Makes m cap rows old (Err failed) = IsNotMade cap rows old failed.0 failed.1

-- the device after it
abbrev pub made_disk : {D : Type 0} → Result (Closed D) (D × WriteFault) → D
made_disk (Ok closed) = disk_of closed
made_disk (Err failed) = failed.0
