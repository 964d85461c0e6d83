-- What loading tells of the files.
use Rattle.std.specs.Prelude.{◌≡◌, ◌≢◌, ◌⊎◌, ℕ, List, map, Result, Ok, Err}
use Rattle.qm_history.specs.Common.{CrashState, OpenFault, Log}
use Rattle.qm_glog.specs.Log.{bodies_of}
use Rattle.qm_glog.specs.Records.{IsLog, IsDamaged}
use Rattle.qm_glog.specs.declared.fault.OpenFault.TheVariants.{Disk, Unformatted, Damaged, NoMemory}
use Rattle.qm_history.specs.Master.{MasterRecord, AreMaster, master_of, master_text, no_master}
use Rattle.qm_history.specs.Start.{first_byte, IsMasterDamaged, IsUnformatted}
use Rattle.qm_store.specs.MasterJudging.{IsMaster}
use Rattle.qm_store.specs.MasterRecords.{state_of}
use Rattle.qm_store.specs.declared.master.state.MasterState.{MasterState}
use Rattle.qm_store.specs.Database.{disk_of, loaded_disk, loaded_record}
use Rattle.qm_store.specs.Files.{recorded_in}
use Rattle.qm_store.specs.Recorded.{Holds}
use Rattle.qm_store.specs.declared.closed.Closed.{Closed}
use Rattle.qm_store.specs.declared.files.Files.{Files}
use Rattle.qm_store.specs.declared.files.TheConstants.{MASTER_FILE}
use Rattle.qm_store.specs.declared.loaded.Loaded.{Loaded}

-- the master says which file is live, and that one is broken off at this place
pub record IsLiveCut (files : CrashState) (file place : ℕ) : Type 0 where
  pub masters : List MasterRecord
  pub master_is_log : IsLog (files MASTER_FILE) (map master_text masters)
  pub are_master : AreMaster masters
  pub file_is : file ≡ (master_of no_master masters).live
  pub cut : IsDamaged (files file) place

-- a place is the first that is wrong: in the master as it is judged whole, or else in the live file as a log alone
abbrev pub IsDamagedAt : CrashState → ℕ → ℕ → Type 0
IsDamagedAt files file place =
    ((file ≡ MASTER_FILE) × IsMasterDamaged (files MASTER_FILE) place) ⊎ IsLiveCut files file place

-- The master doesn't begin with a record; or a place is the first that is wrong, the master before the live file; or the device
-- failed; or memory ran out, behind a gate that is open.
abbrev pub IsLoadFault : CrashState → OpenFault → Type 0
IsLoadFault files Disk = Unit {0}
IsLoadFault files NoMemory = first_byte (files MASTER_FILE) ≡ 1
IsLoadFault files (Unformatted byte) = IsUnformatted files byte
IsLoadFault files (Damaged file place) = IsDamagedAt files file place

-- what the files hold, or why they aren't a database
abbrev pub Loads : {D : Type 0} → CrashState → Result (Loaded D) (Closed D × OpenFault) → Type 0
Loads files (Ok loaded) = Holds files (loaded_record loaded)
Loads files (Err failed) = IsLoadFault files failed.1

-- the device after it
abbrev pub disk_after : {D : Type 0} → Result (Loaded D) (Closed D × OpenFault) → D
disk_after (Ok loaded) = loaded_disk loaded
disk_after (Err failed) = disk_of failed.0

-- it failed by this fault
abbrev pub FailsBy : {T C E : Type 0} → Result T (C × E) → E → Type 0
FailsBy (Ok done) fault = ⊥
FailsBy (Err failed) fault = failed.1 ≡ fault

-- ---- the parts of it

-- the same of both files as they are read
abbrev pub ReadsFiles : CrashState → Result Files OpenFault → Type 0
ReadsFiles files (Ok read) = Holds files (recorded_in read)
ReadsFiles files (Err fault) = IsLoadFault files fault

-- why a file is no master
abbrev pub IsMasterFault : List ℕ → OpenFault → Type 0
IsMasterFault file Disk = Unit {0}
IsMasterFault file NoMemory = first_byte file ≡ 1
IsMasterFault file (Unformatted byte) = (byte ≡ first_byte file) × (byte ≢ 1)
IsMasterFault file (Damaged number place) = (number ≡ MASTER_FILE) × IsMasterDamaged file place

-- its log, or why it has none
abbrev pub ReadsMasterLog : List ℕ → Result Log OpenFault → Type 0
ReadsMasterLog file (Ok log) = IsLog file (bodies_of log)
ReadsMasterLog file (Err fault) = IsMasterFault file fault

-- the log of a master and what it says, or why there is none
pub record IsMasterLog (file : List ℕ) (bodies : List (List ℕ)) (says : MasterState) : Type 0 where
  pub records : IsLog file bodies
  pub is_master : IsMaster bodies (state_of says)

abbrev pub ReadsMaster : List ℕ → Result (Log × MasterState) OpenFault → Type 0
ReadsMaster file (Ok read) = IsMasterLog file (bodies_of read.0) read.1
ReadsMaster file (Err fault) = IsMasterFault file fault

-- why a live file is no log
abbrev pub IsLiveFault : ℕ → List ℕ → OpenFault → Type 0
IsLiveFault live file Disk = Unit {0}
IsLiveFault live file NoMemory = Unit {0}
IsLiveFault live file (Unformatted byte) = ⊥
IsLiveFault live file (Damaged number place) = (number ≡ live) × IsDamaged file place

-- the log of the live file, or why there is none
abbrev pub ReadsLive : ℕ → List ℕ → Result Log OpenFault → Type 0
ReadsLive live file (Ok log) = IsLog file (bodies_of log)
ReadsLive live file (Err fault) = IsLiveFault live file fault
