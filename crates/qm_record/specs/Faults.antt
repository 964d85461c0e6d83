-- What reading a record tells.
use Rattle.std.specs.Prelude.{◌≡◌, ℕ, ◌+◌, ◌<◌, ◌≤◌, List, ◌++◌, length, take, Result, Ok, Err}
use Rattle.qm_bytes.specs.Laws.{Spells}
use Rattle.qm_kinds.specs.declared.record.Record.{Record}
use Rattle.qm_record.specs.declared.fault.RecordFault.{RecordFault}
use Rattle.qm_record.specs.declared.fault.RecordFault.TheVariants.{Bad, NoMemory}
use Rattle.qm_record.specs.Spelling.{HasSpelling, record_text}

-- this record was read, unless memory ran out
abbrev pub IsRead : Record → Result Record RecordFault → Type 0
IsRead r (Ok x) = x ≡ r
IsRead r (Err NoMemory) = Unit {0}
IsRead r (Err (Bad place)) = ⊥

-- the bytes are a record's
pub record IsRecord (bytes : List ℕ) : Type 0 where
  pub value : Record
  pub spells : Spells HasSpelling record_text value bytes

-- some record's spelling begins with these bytes
pub record Begins (front : List ℕ) : Type 0 where
  pub value : Record
  pub more : List ℕ
  pub fits : HasSpelling value
  pub is : record_text value ≡ front ++ more

-- the first place where no spelling goes on: the bytes before it begin one, and with the byte there none begins
pub record IsFirstFault (bytes : List ℕ) (place : ℕ) : Type 0 where
  pub within : place ≤ length bytes
  pub begins : Begins (take place bytes)
  pub ends : place < length bytes → Begins (take (place + 1) bytes) → ⊥
