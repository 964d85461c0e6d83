-- What the program's types stand for, and what is read from bytes.
use Rattle.std.specs.Prelude.{◌≡◌, ◌<◌, ◌^◌, ℕ, List, Option, None, Some}
use Rattle.qm_history.specs.Master as master
use Rattle.qm_history.specs.Master.{master_text, after_master, no_master, CanBeFirst, CanBeLater}
use Rattle.qm_store.specs.declared.master.record.MasterRecord.{MasterRecord}
use Rattle.qm_store.specs.declared.master.record.MasterRecord.TheVariants.{Found, Epoch, Live}
use Rattle.qm_store.specs.declared.master.state.MasterState.{MasterState}

-- the record that a value of the program is
abbrev pub record_of : MasterRecord → master.MasterRecord
record_of (Found cap file) = master.Found cap file
record_of (Epoch epoch node) = master.Epoch epoch node
record_of (Live file epoch) = master.Live file epoch

-- what a master says, as a value of the program has it
abbrev pub state_of : MasterState → master.MasterState
state_of s = record { cap = s.cap; live = s.live; epoch = s.epoch }

-- the number of the record has eight bytes
abbrev pub HasWidth : MasterRecord → Type 0
HasWidth (Found cap file) = cap < 2 ^ 64
HasWidth (Epoch epoch node) = epoch < 2 ^ 64
HasWidth (Live file epoch) = epoch < 2 ^ 64

-- the bytes spell the record that was read, or none
abbrev pub IsReading : List ℕ → Option MasterRecord → Type 0
IsReading body None = (r : master.MasterRecord) → master_text r ≡ body → ⊥
IsReading body (Some r) = body ≡ master_text (record_of r)

-- the record can be the first, and says this; or it can't be the first
abbrev pub IsBegun : master.MasterRecord → Option MasterState → Type 0
IsBegun r None = CanBeFirst r → ⊥
IsBegun r (Some says) = CanBeFirst r × (state_of says ≡ after_master no_master r)

-- the record can stand behind those that say the one, and with it they say the other; or it can't stand there
abbrev pub SaysNext : master.MasterState → master.MasterRecord → Option MasterState → Type 0
SaysNext before r None = CanBeLater before r → ⊥
SaysNext before r (Some says) = CanBeLater before r × (state_of says ≡ after_master before r)

-- the same of the record that the bytes spell, where they spell one
abbrev pub SaysFirst : List ℕ → Option MasterState → Type 0
SaysFirst body None = (r : master.MasterRecord) → master_text r ≡ body → CanBeFirst r → ⊥
SaysFirst body (Some says) = (r : master.MasterRecord) × (body ≡ master_text r) × CanBeFirst r × (state_of says ≡ after_master no_master r)

abbrev pub SaysBehind : master.MasterState → List ℕ → Option MasterState → Type 0
SaysBehind before body None = (r : master.MasterRecord) → master_text r ≡ body → CanBeLater before r → ⊥
SaysBehind before body (Some says) = (r : master.MasterRecord) × (body ≡ master_text r) × CanBeLater before r × (state_of says ≡ after_master before r)
