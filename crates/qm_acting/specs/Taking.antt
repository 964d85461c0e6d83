-- What taking over answers, and what it leaves.
use Rattle.std.specs.Prelude.{◌≡◌, ◌⊎◌, ◌<◌, ◌≤◌, ◌^◌, ℕ, IsTrue, List, Result, Ok, Err}
use Rattle.qm_history.specs.Common.{Meaning, CrashState, LeavesOnly, Reply, Request}
use Rattle.qm_store.specs.Database.{disk_of as closed_disk, loaded_spare, spare_of}
use Rattle.qm_store.specs.Opening.{in_next_epoch, next_need, IsNotOpened}
use Rattle.qm_store.specs.Recorded.{Recorded, Holds, IsAtRest, epoch_behind, with_body}
use Rattle.qm_store.specs.declared.closed.Closed.{Closed}
use Rattle.qm_store.specs.declared.fault.WriteFault.{WriteFault}
use Rattle.qm_store.specs.declared.fault.WriteFault.TheVariants as writing
use Rattle.qm_store.specs.declared.files.TheConstants.{MASTER_CAP}
use Rattle.qm_acting.specs.Asking.{Does, IsInDoubt, Lacks}
use Rattle.qm_acting.specs.Standing.{Standing, standing_of, disk_of, IsReady, restored_standing, restored_disk}
use Rattle.qm_acting.specs.declared.fault.RecordFault.{RecordFault}
use Rattle.qm_acting.specs.declared.fault.RecordFault.TheVariants as recording
use Rattle.qm_acting.specs.declared.fault.TakeFault.{TakeFault}
use Rattle.qm_acting.specs.declared.fault.TakeFault.TheVariants.{MasterFull, Epoch, Full, Record, NoMemory}
use Rattle.qm_acting.specs.declared.manager.Manager.{Manager}
use Rattle.qm_acting.specs.declared.restored.Restored.{Restored}

-- the same system, and its records in the next epoch
abbrev pub in_next : Standing → ℕ → ℕ → Standing
in_next st tried node = record { system = st.system; recorded = in_next_epoch st.recorded tried node }

-- the next epoch is one that a master can hold, where the disks tell
abbrev pub IsEarly : {D : Type 0} → Meaning D → ℕ → Restored D → Type 0
IsEarly m tried old = IsTrue m.tells → epoch_behind (restored_standing old).recorded tried < 2 ^ 62

-- ---- the epoch alone

-- The manager works in the next epoch, with the image that was made. What was spare is.
pub record IsOpened {D : Type 0} (m : Meaning D) (tried node : ℕ) (old : Restored D) (manager : Manager D) : Type 0 where
  pub master_room : next_need (restored_standing old).recorded tried node ≤ MASTER_CAP
  pub standing : standing_of manager ≡ in_next (restored_standing old) tried node
  pub ready : IsReady m manager
  pub image : manager.image ≡ old.image
  pub spare : spare_of manager.store ≡ loaded_spare old.loaded

-- What opening answers: the manager of the next epoch; or why there is none, and the epoch that was tried by then.
abbrev pub Opens : {D : Type 0} → Meaning D → ℕ → ℕ → Restored D → Result (Manager D) (Closed D × WriteFault × ℕ) → Type 0
Opens m tried node old (Ok manager) = IsOpened m tried node old manager
Opens m tried node old (Err failed) = IsNotOpened tried node old.loaded failed.0 failed.2 failed.1

-- the device after it
abbrev pub disk_behind : {D : Type 0} → Result (Manager D) (Closed D × WriteFault × ℕ) → D
disk_behind (Ok manager) = disk_of manager
disk_behind (Err failed) = closed_disk failed.0

-- it failed by this fault
abbrev pub OpenFails : {D : Type 0} → Result (Manager D) (Closed D × WriteFault × ℕ) → WriteFault → Type 0
OpenFails (Ok done) fault = ⊥
OpenFails (Err failed) fault = failed.1 ≡ fault

-- ---- the epoch, and the record of the takeover

-- why a node didn't take over, where the epoch isn't there
abbrev pub taking_fault : WriteFault → TakeFault
taking_fault writing.Disk = Epoch
taking_fault (writing.Full need cap) = MasterFull need cap
taking_fault writing.NoMemory = NoMemory

-- and where the record isn't
abbrev pub recording_fault : RecordFault → TakeFault
recording_fault recording.Disk = Record
recording_fault (recording.Full need cap) = Full need cap

-- a takeover that stands: the manager works in the next epoch, and its request is done there
pub record Takes {D : Type 0} (m : Meaning D) (tried moment node : ℕ) (asked : Request) (old : Standing) (manager : Manager D) (reply : Reply) : Type 0 where
  pub master_room : next_need old.recorded tried node ≤ MASTER_CAP
  pub does : Does (in_next old tried node) moment node asked (standing_of manager) reply
  pub ready : IsReady m manager

-- the epoch is recorded, and no crash can take it away
pub record IsInNext {D : Type 0} (m : Meaning D) (tried node : ℕ) (old : Standing) (disk : D) : Type 0 where
  pub master_room : next_need old.recorded tried node ≤ MASTER_CAP
  pub at_rest : IsTrue m.tells → IsAtRest m (in_next old tried node).recorded disk

-- Why a node didn't take over. Where the master or memory lacks, nothing has changed.
abbrev pub TakesNot : {D : Type 0} → Meaning D → ℕ → ℕ → ℕ → Request → Standing → D → D → TakeFault → Type 0
TakesNot m tried moment node asked old before after (MasterFull need cap) =
    (cap < need) × (need ≡ next_need old.recorded tried node) × (cap ≡ MASTER_CAP) × (after ≡ before)
TakesNot m tried moment node asked old before after Epoch = next_need old.recorded tried node ≤ MASTER_CAP
TakesNot m tried moment node asked old before after (Full need cap) = IsInNext m tried node old after × Lacks (in_next old tried node) moment node asked need cap
TakesNot m tried moment node asked old before after Record =
    (next_need old.recorded tried node ≤ MASTER_CAP) × IsInDoubt (in_next old tried node) moment node asked
TakesNot m tried moment node asked old before after NoMemory = after ≡ before

-- What a takeover answers.
abbrev pub TakesOver : {D : Type 0} → Meaning D → ℕ → ℕ → ℕ → Request → Restored D → Result (Manager D × Reply) (Closed D × TakeFault) → Type 0
TakesOver m tried moment node asked old (Ok taken) = Takes m tried moment node asked (restored_standing old) taken.0 taken.1
TakesOver m tried moment node asked old (Err failed) =
    TakesNot m tried moment node asked (restored_standing old) (restored_disk old) (closed_disk failed.0) failed.1

-- the device after it
abbrev pub taken_disk : {D : Type 0} → Result (Manager D × Reply) (Closed D × TakeFault) → D
taken_disk (Ok taken) = disk_of taken.0
taken_disk (Err failed) = closed_disk failed.0

-- the files hold what was read; or the same in the next epoch; or that and the record of the takeover
abbrev pub HoldsTaken : Recorded → Recorded → List ℕ → CrashState → Type 0
HoldsTaken r next text crashed = Holds crashed r ⊎ (Holds crashed next ⊎ Holds crashed (with_body next text))

-- the files hold what was read, or the same in the next epoch
abbrev pub HoldsEpoch : Recorded → Recorded → CrashState → Type 0
HoldsEpoch r next crashed = Holds crashed r ⊎ Holds crashed next

-- What a crash leaves, at any moment of a takeover that doesn't stand. The record is written only once the epoch is there.
abbrev pub FailLeaves : {D : Type 0} → Meaning D → Recorded → Recorded → List ℕ → D → D → TakeFault → Type 0
FailLeaves m r next text old new Record = LeavesOnly m old new (HoldsTaken r next text)
FailLeaves m r next text old new (Full need cap) = LeavesOnly m old new (HoldsEpoch r next)
FailLeaves m r next text old new Epoch = LeavesOnly m old new (HoldsEpoch r next)
FailLeaves m r next text old new (MasterFull need cap) = Unit {0}
FailLeaves m r next text old new NoMemory = Unit {0}

-- the same of each takeover
abbrev pub TakeLeaves : {D : Type 0} → Meaning D → Recorded → Recorded → List ℕ → D → Result (Manager D × Reply) (Closed D × TakeFault) → Type 0
TakeLeaves m r next text old (Ok taken) = LeavesOnly m old (disk_of taken.0) (HoldsTaken r next text)
TakeLeaves m r next text old (Err failed) = FailLeaves m r next text old (closed_disk failed.0) failed.1

-- one call of the disk failed
abbrev pub IsDiskFault : TakeFault → Type 0
IsDiskFault Epoch = Unit {0}
IsDiskFault Record = Unit {0}
IsDiskFault (MasterFull need cap) = ⊥
IsDiskFault (Full need cap) = ⊥
IsDiskFault NoMemory = ⊥

abbrev pub TakeFails : {D : Type 0} → Result (Manager D × Reply) (Closed D × TakeFault) → Type 0
TakeFails (Ok taken) = ⊥
TakeFails (Err failed) = IsDiskFault failed.1
