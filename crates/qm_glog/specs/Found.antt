-- What reading finds at a place of a file.
use Rattle.std.specs.Prelude.{◌≡◌, ◌≢◌, ℕ, ◌^◌, ◌<◌, ◌≤◌, ◌+◌, List, [], ◌∷◌, ◌++◌, slice_index, Result, Ok, Err}
use Rattle.std.specs.Int.{w32, to_le_bytes}
use Rattle.qm_glog.specs.Records.{BeginsWithRecord, IsLog, IsBroken, IsDamaged}
use Rattle.qm_glog.specs.Bodies.{list_of}
use Rattle.qm_glog.specs.declared.bodies.Bodies.{Bodies}
use Rattle.qm_glog.specs.declared.fault.OpenFault.{OpenFault}
use Rattle.qm_glog.specs.declared.fault.OpenFault.TheVariants.{Disk, Unformatted, Damaged, NoMemory}
use Rattle.qm_glog.specs.declared.reading.Head.{Head}
use Rattle.qm_glog.specs.declared.reading.Head.TheVariants.{Closed, Open}

-- the four bytes behind a gate
abbrev pub length_bytes : List ℕ → List ℕ
length_bytes head = slice_index head 1 ∷ slice_index head 2 ∷ slice_index head 3 ∷ slice_index head 4 ∷ []

-- this begins with a closed gate
abbrev pub IsClosed : List ℕ → Type 0
IsClosed rest = (gate : ℕ) × (more : List ℕ) × (rest ≡ gate ∷ more) × (gate ≢ 1)

-- the disk failed, or this file is damaged at this place, where this is broken
abbrev pub IsHeadFault : ℕ → List ℕ → ℕ → OpenFault → Type 0
IsHeadFault number rest place Disk = Unit {0}
IsHeadFault number rest place (Damaged n at) = (n ≡ number) × (at ≡ place) × IsBroken rest
IsHeadFault number rest place (Unformatted byte) = ⊥
IsHeadFault number rest place NoMemory = ⊥

-- a closed gate, or an open one and the length of a body
abbrev pub HeadAt : ℕ → List ℕ → ℕ → Result Head OpenFault → Type 0
HeadAt number rest place (Ok Closed) = IsClosed rest
HeadAt number rest place (Ok (Open n)) = (n < 2 ^ 32) × (more : List ℕ) × (rest ≡ 1 ∷ (to_le_bytes w32 n ++ more))
HeadAt number rest place (Err e) = IsHeadFault number rest place e

-- an open record ends within so many bytes
abbrev pub EndsWithin : ℕ → ℕ → Head → Type 0
EndsWithin place size Closed = Unit {0}
EndsWithin place size (Open n) = place + 5 + n ≤ size

-- not that the file is empty
abbrev pub IsReadFault : ℕ → List ℕ → OpenFault → Type 0
IsReadFault number file Disk = Unit {0}
IsReadFault number file NoMemory = BeginsWithRecord file
IsReadFault number file (Damaged n place) = (n ≡ number) × IsDamaged file place
IsReadFault number file (Unformatted byte) = ⊥

-- the records of a file, or why it has none
abbrev pub RecordsOf : ℕ → List ℕ → Result (Bodies × ℕ) OpenFault → Type 0
RecordsOf number file (Ok found) = IsLog file (list_of found.0)
RecordsOf number file (Err e) = IsReadFault number file e
