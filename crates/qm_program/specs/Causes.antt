-- Why the program ended so: how often the outside failed, and what was wrong with what was read.
use Rattle.std.specs.Prelude.{◌≡◌, ◌⊎◌, ◌<◌, ℕ, Bool, List, [], length, Option, IsTrue}
use Rattle.qm_acting.specs.Reading.{IsRestoreFault}
use Rattle.qm_node.specs.Taken.{RoseBy}
use Rattle.qm_history.specs.Common.{CrashState, turns_kept, ServingEnd, faults_told, counted}
use Rattle.qm_glog.specs.declared.fault.OpenFault.TheVariants as opening
use Rattle.qm_history.specs.Ends as serving
use Rattle.qm_history.specs.declared.turn.Turn.{Turn}
use Rattle.qm_cluster.specs.Ends.{EndsBy, IsUndamaged}
use Rattle.qm_program.specs.Reading.{IsFaulty}
use Rattle.qm_program.specs.declared.outcome.End.{End}
use Rattle.qm_program.specs.declared.outcome.End.TheVariants as ends

-- how often the source, the sink and the disk have failed
pub record Counts : Type 0 where
  pub source : ℕ
  pub sink : ℕ
  pub disk : ℕ

abbrev pub counts : ℕ → ℕ → ℕ → Counts
counts source sink disk = record { source = source; sink = sink; disk = disk }

-- The disk failed so often as turns tell, which is once at least; or once, where the files were made or opened.
abbrev pub DiskFails : List Turn → ℕ → ℕ → Type 0
DiskFails [] before now = now ≡ counted before
DiskFails turns before now = (0 < faults_told turns) × RoseBy (faults_told turns) before now

-- The files as they were opened are damaged there, and the disk didn't fail. Only of disks that don't tell what they hold it may come
-- while lines are served.
abbrev pub IsDamaged : Bool → CrashState → List Turn → ℕ → ℕ → ℕ → ℕ → Type 0
IsDamaged tells files turns before now file place =
    ((turns ≡ []) × (now ≡ before) × (IsTrue tells → IsRestoreFault files (opening.Damaged file place))) ⊎ (IsTrue tells → ⊥)

-- Each end has its cause: a count rises only where the end says so. A disk that failed doesn't end the serving of lines; so at the ends
-- of these its count rose as often as their turns tell.
abbrev pub HasCause : Bool → CrashState → Option (List ℕ) → List Turn → Counts → Counts → End → Type 0
HasCause tells files left turns old new ends.Ok = new ≡ old
HasCause tells files left turns old new ends.Usage = new ≡ old
HasCause tells files left turns old new (ends.Script line kind) =
    (new.source ≡ old.source) × (new.sink ≡ old.sink) × IsFaulty tells files old.disk new.disk left (record { line = line; kind = kind })
HasCause tells files left turns old new ends.Read = (new.source ≡ counted old.source) × (new.sink ≡ old.sink) × (new.disk ≡ old.disk)
HasCause tells files left turns old new ends.Write =
    (new.source ≡ old.source) × (new.sink ≡ counted old.sink) × RoseBy (faults_told turns) old.disk new.disk
HasCause tells files left turns old new ends.Journal = (new.source ≡ old.source) × (new.sink ≡ old.sink) × DiskFails turns old.disk new.disk
HasCause tells files left turns old new (ends.Unformatted byte) = (new ≡ old) × (IsTrue tells → IsRestoreFault files (opening.Unformatted byte))
HasCause tells files left turns old new (ends.Damaged file place) =
    (new.source ≡ old.source) × (new.sink ≡ old.sink) × IsDamaged tells files turns old.disk new.disk file place
HasCause tells files left turns old new ends.HistoryFull =
    (new.source ≡ old.source) × (new.sink ≡ old.sink) × RoseBy (faults_told turns) old.disk new.disk × (length turns ≡ turns_kept)
HasCause tells files left turns old new ends.NoMemory = (new.source ≡ old.source) × (new.sink ≡ old.sink)

-- ---- lines that were served

-- The disk failed as often as the turns tell; at want of memory and at a damaged file nothing is said of it.
abbrev pub FailedAsTold : ServingEnd → List Turn → ℕ → ℕ → Type 0
FailedAsTold serving.Served turns before now = RoseBy (faults_told turns) before now
FailedAsTold serving.DiskFailed turns before now = RoseBy (faults_told turns) before now
FailedAsTold serving.SinkFailed turns before now = RoseBy (faults_told turns) before now
FailedAsTold serving.HistoryFull turns before now = RoseBy (faults_told turns) before now
FailedAsTold (serving.Damaged file place) turns before now = Unit {0}
FailedAsTold serving.NoMemory turns before now = Unit {0}

-- Why the serving of lines ended so: by its turns, and by how often the disk failed in them. Where disks tell what they hold, no file is
-- told as one that isn't sound.
pub record HasReason (tells : Bool) (end : ServingEnd) (turns : List Turn) (before now : ℕ) : Type 0 where
  pub ends : EndsBy end turns
  pub failed : FailedAsTold end turns before now
  pub undamaged : IsTrue tells → IsUndamaged end
