-- What opening a file answers.
use Rattle.std.specs.Prelude.{◌≡◌, ◌≢◌, ℕ, List, [], Result, Ok, Err}
use Rattle.qm_glog.specs.Records.{BeginsWithRecord, IsLog, IsDamaged}
use Rattle.qm_glog.specs.Log.{bodies_of}
use Rattle.qm_glog.specs.declared.log.Log.{Log}
use Rattle.qm_glog.specs.declared.fault.OpenFault.{OpenFault}
use Rattle.qm_glog.specs.declared.fault.OpenFault.TheVariants.{Disk, Unformatted, Damaged, NoMemory}

-- The file of this number is empty, or damaged at this place; or the disk failed; or memory ran out, behind a record
-- that can be read.
abbrev pub IsOpenFault : ℕ → List ℕ → OpenFault → Type 0
IsOpenFault number file Disk = Unit {0}
IsOpenFault number file NoMemory = BeginsWithRecord file
IsOpenFault number file (Unformatted byte) = (byte ≡ 0) × (file ≡ [])
IsOpenFault number file (Damaged n place) = (n ≡ number) × (file ≢ []) × IsDamaged file place

-- the file's records, or why it has none
abbrev pub Opens : ℕ → List ℕ → Result Log OpenFault → Type 0
Opens number file (Ok log) = IsLog file (bodies_of log)
Opens number file (Err e) = IsOpenFault number file e
