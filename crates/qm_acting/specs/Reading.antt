-- What the files are that were read.
use Rattle.std.specs.Prelude.{◌≡◌, ◌⊎◌, ℕ, Bool, if◌then◌else◌, List, [], ◌∷◌, ◌++◌, length, Result, Ok, Err}
use Rattle.qm_history.specs.Common.{CrashState, OpenFault, first_byte, place_of}
use Rattle.qm_store.specs.Database.{disk_of as closed_disk}
use Rattle.qm_store.specs.Loading.{IsLoadFault}
use Rattle.qm_store.specs.Recorded.{Recorded, Holds}
use Rattle.qm_store.specs.declared.closed.Closed.{Closed}
use Rattle.qm_store.specs.declared.files.TheConstants.{MASTER_FILE}
use Rattle.qm_glog.specs.declared.fault.OpenFault.TheVariants.{Disk, Unformatted, Damaged, NoMemory}
use Rattle.qm_restore.specs.QueueFile.{IsFirstUnlawful}
use Rattle.qm_restore.specs.declared.fault.RestoreFault.{RestoreFault}
use Rattle.qm_restore.specs.declared.fault.RestoreFault.TheVariants.{Unlawful}
use Rattle.qm_restore.specs.declared.fault.RestoreFault.TheVariants as restoring
use Rattle.qm_acting.specs.Standing.{restored_standing, restored_disk}
use Rattle.qm_acting.specs.declared.restored.Restored.{Restored}

-- a record that was in doubt behind so many of this file is there, or isn't
abbrev pub IsTold : Recorded → ℕ → ℕ → Bool → Type 0
IsTold r live before kept =
    (bodies : List (List ℕ)) (body : List ℕ) → length bodies ≡ before → r.says.live ≡ live → (r.bodies ≡ bodies) ⊎ (r.bodies ≡ bodies ++ body ∷ [])
    → r.bodies ≡ (if kept then bodies ++ body ∷ [] else bodies)

-- The files hold records of which this one, by the place of its gate in the live file, is the first that can't stand there.
pub record IsUnlawfulAt (files : CrashState) (file place : ℕ) : Type 0 where
  pub recorded : Recorded
  pub index : ℕ
  pub holds : Holds files recorded
  pub live : file ≡ recorded.says.live
  pub first : IsFirstUnlawful recorded.bodies index
  pub place_is : place ≡ place_of recorded.bodies index

-- why the files are those of no site; memory may run out behind a gate that is open
abbrev pub IsRestoreFault : CrashState → OpenFault → Type 0
IsRestoreFault files Disk = Unit {0}
IsRestoreFault files NoMemory = first_byte (files MASTER_FILE) ≡ 1
IsRestoreFault files (Unformatted byte) = IsLoadFault files (Unformatted byte)
IsRestoreFault files (Damaged file place) = IsLoadFault files (Damaged file place) ⊎ IsUnlawfulAt files file place

-- what the files hold, or why they are those of no site
abbrev pub Restores : {D : Type 0} → CrashState → Result (Restored D) (Closed D × OpenFault) → Type 0
Restores files (Ok restored) = Holds files (restored_standing restored).recorded
Restores files (Err failed) = IsRestoreFault files failed.1

-- the device after it
abbrev pub disk_after : {D : Type 0} → Result (Restored D) (Closed D × OpenFault) → D
disk_after (Ok restored) = restored_disk restored
disk_after (Err failed) = closed_disk failed.0

-- what is told of records that aren't those of a site: the place of the one that can't stand there, or that memory ran out
abbrev pub told_of : Recorded → RestoreFault → OpenFault
told_of r (Unlawful index flaw) = Damaged r.says.live (place_of r.bodies index)
told_of r restoring.NoMemory = NoMemory
