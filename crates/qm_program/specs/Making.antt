-- What the making of a new site leaves, by its end.
-- OpenVMS System Manager's Manual, Managing the Queue Manager and Queue Database, on creating a queue database.
use Rattle.std.specs.Prelude.{◌≡◌, ℕ, IsTrue, List, Option, Result, Ok, Err}
use Rattle.std.specs.Io.KnownBytes.{Appends, Keeps}
use Rattle.qm_store.specs.Making.{KeepsFile}
use Rattle.qm_store.specs.declared.files.TheConstants.{FIRST_QUEUE_FILE}
use Rattle.qm_disk.specs.Disk.{CrashState, IsLeft, Meaning}
use Rattle.qm_history.specs.Common.{site_of, HoldRecords, Starts, first_world, TakesPrefix, image_of}
use Rattle.qm_history.specs.declared.world.World.{World}
use Rattle.qm_program.specs.Task.{initialized}
use Rattle.qm_program.specs.declared.outcome.End.{End}
use Rattle.qm_program.specs.declared.outcome.End.TheVariants as ends

-- the files hold the new site of nodes of these names, all down, and nothing more, under a master with this cap and no epoch
abbrev pub HoldNewSite : List (List ℕ) → ℕ → CrashState → Type 0
HoldNewSite names cap files =
    HoldRecords files (record { cap = cap; live = FIRST_QUEUE_FILE; epoch = 0 }) (image_of (site_of names))

-- the world with which a program begins on them
abbrev pub new_world : List (List ℕ) → World
new_world names = first_world (image_of (site_of names)) 0

-- the files let a program begin in it, and tell of no epoch
pub record BeginsNew (names : List (List ℕ)) (files : CrashState) : Type 0 where
  pub starts : Starts files (new_world names)
  pub no_epoch : starts.says.epoch ≡ 0

-- the device behind it
abbrev pub made_disk : {D E : Type 0} → Result D (D × E) → D
made_disk (Ok disk) = disk
made_disk (Err failed) = failed.0

module _ {D : Type 0} (m : Meaning D) where
  -- so the files of a disk read, and so a crash leaves them
  pub record HasNewSite (names : List (List ℕ)) (cap : ℕ) (disk : D) : Type 0 where
    pub reads : HoldNewSite names cap (m.seen disk)
    pub crash : (crashed : CrashState) → IsLeft (m.may_leave disk) crashed → HoldNewSite names cap crashed

  -- What the making of a new site leaves of the disk and of what the sink took, by its end. At Ok and at Write the disk has the
  -- site. At Journal and at NoMemory the master and the first queue file may hold anything.
  abbrev pub MakesTo : List (List ℕ) → ℕ → D → Option (List ℕ) → Option (List ℕ) → End → Type 0
  MakesTo names cap disk taken now ends.Ok = (IsTrue m.tells → HasNewSite names cap disk) × Appends taken now initialized
  MakesTo names cap disk taken now ends.Write = (IsTrue m.tells → HasNewSite names cap disk) × TakesPrefix taken now initialized
  MakesTo names cap disk taken now ends.Journal = Keeps taken now
  MakesTo names cap disk taken now ends.NoMemory = Keeps taken now
  MakesTo names cap disk taken now ends.Usage = ⊥
  MakesTo names cap disk taken now ends.Read = ⊥
  MakesTo names cap disk taken now (ends.Script line kind) = ⊥
  MakesTo names cap disk taken now (ends.Unformatted byte) = ⊥
  MakesTo names cap disk taken now (ends.Damaged file place) = ⊥
  MakesTo names cap disk taken now ends.HistoryFull = ⊥

  -- At each moment a crash leaves of the second queue file what it might before.
  pub record Makes (names : List (List ℕ)) (cap : ℕ) (old new : D) (taken now : Option (List ℕ)) (end : End) : Type 0 where
    pub leaves : MakesTo names cap new taken now end
    pub other : KeepsFile m 2 old new
