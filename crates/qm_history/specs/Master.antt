-- The records of the master file: which queue file is live, and which epochs were.
-- OpenVMS System Manager's Manual, Managing the Queue Manager and Queue Database, on the master file of the queue database.
-- This site's own: epochs, and what its records say.
use Rattle.std.specs.Prelude.{◌≡◌, ◌⊎◌, ◌<◌, ◌≤◌, ◌^◌, ℕ, List, [], ◌∷◌, ◌++◌}
use Rattle.std.specs.Int.{w64, to_le_bytes}

-- the master was made, with the cap of a queue file and the live one; an epoch began, with a node as manager; another file is live
pub data MasterRecord : Type 0 where
  Found : ℕ → ℕ → MasterRecord
  Epoch : ℕ → ℕ → MasterRecord
  Live : ℕ → ℕ → MasterRecord

-- the bytes of a record: a version, a number and its fields, numbers low byte first
abbrev pub master_text : MasterRecord → List ℕ
master_text (Found cap file) = 1 ∷ 64 ∷ (to_le_bytes w64 cap ++ file ∷ [])
master_text (Epoch epoch node) = 1 ∷ 65 ∷ (to_le_bytes w64 epoch ++ node ∷ [])
master_text (Live file epoch) = 1 ∷ 66 ∷ file ∷ to_le_bytes w64 epoch

-- what the master says: the cap of a queue file, the live one, and the greatest epoch, or 0 before the first
pub record MasterState : Type 0 where
  pub cap : ℕ
  pub live : ℕ
  pub epoch : ℕ

-- what a record changes
abbrev pub after_master : MasterState → MasterRecord → MasterState
after_master m (Found cap file) = record { cap = cap; live = file; epoch = 0 }
after_master m (Epoch epoch node) = record m { epoch = epoch }
after_master m (Live file epoch) = record m { live = file }

-- what records change, the first one first
abbrev pub master_of : MasterState → List MasterRecord → MasterState
master_of m [] = m
master_of m (r ∷ records) = master_of (after_master m r) records

-- before its first record a master says nothing
abbrev pub no_master : MasterState
no_master = record { cap = 0; live = 0; epoch = 0 }

-- one of the two queue files
abbrev pub IsQueueFile : ℕ → Type 0
IsQueueFile file = (file ≡ 1) ⊎ (file ≡ 2)

-- the first record says that the master was made
abbrev pub CanBeFirst : MasterRecord → Type 0
CanBeFirst (Found cap file) = (4096 ≤ cap) × (cap ≤ 268435456) × IsQueueFile file
CanBeFirst (Epoch epoch node) = ⊥
CanBeFirst (Live file epoch) = ⊥

-- epochs rise, and another file becomes live in the last epoch
abbrev pub CanBeLater : MasterState → MasterRecord → Type 0
CanBeLater m (Found cap file) = ⊥
CanBeLater m (Epoch epoch node) = (m.epoch < epoch) × (epoch < 2 ^ 62) × (node < 2 ^ 8)
CanBeLater m (Live file epoch) = IsQueueFile file × (epoch ≡ m.epoch) × (0 < m.epoch)

-- the record can stand behind these
abbrev pub CanStandInMaster : List MasterRecord → MasterRecord → Type 0
CanStandInMaster [] r = CanBeFirst r
CanStandInMaster (first ∷ before) r = CanBeLater (master_of no_master (first ∷ before)) r

-- each record can stand behind those before it, of which these come first
abbrev pub AllStandInMaster : List MasterRecord → List MasterRecord → Type 0
AllStandInMaster before [] = Unit {0}
AllStandInMaster before (r ∷ records) = CanStandInMaster before r × AllStandInMaster (before ++ r ∷ []) records

-- the records of a master
pub record AreMaster (records : List MasterRecord) : Type 0 where
  pub first : MasterRecord
  pub others : List MasterRecord
  pub whole : records ≡ first ∷ others
  pub each : AllStandInMaster [] records
