-- What the files hold of a world between two calls.
-- OpenVMS System Manager's Manual, Managing the Queue Manager and Queue Database, on the files of the queue database.
-- This site's own: the record in doubt.
use Rattle.std.specs.Prelude.{◌≡◌, ◌⊎◌, ℕ, ◌+◌, ◌^◌, ◌≤◌, max, List, [], ◌∷◌, ◌++◌, length, Option, None, Some}
use Rattle.std.specs.List.{AllByRecursion}
use Rattle.qm_disk.specs.Disk.{CrashState, Meaning, IsLeft}
use Rattle.qm_history.specs.Common.{size_of, Record, system_of}
use Rattle.qm_history.specs.declared.world.World.{World}
use Rattle.qm_store.specs.Recorded.{Recorded, Holds}
use Rattle.qm_restore.specs.QueueFile.{IsSiteFile}
use Rattle.qm_chest.specs.declared.place.Place.{Place}

-- In the place of a record in doubt stands nothing or that record; the log is the one before it, without it or with it. Without
-- a record in doubt there is no place, and the log is that of the world.
abbrev pub IsFound : Option Record → Option Place → List Record → List Record → Recorded → Type 0
IsFound None None before log r = log ≡ before
IsFound None (Some place) before log r = ⊥
IsFound (Some doubt) None before log r = ⊥
IsFound (Some doubt) (Some place) before log r =
    (r.says.live ≡ place.file)
    × (((length r.bodies ≡ place.before) × (log ≡ before)) ⊎ ((length r.bodies ≡ place.before + 1) × (log ≡ before ++ doubt ∷ [])))

-- What the files of a site may hold in a world, whose record in doubt would stand in this place: a log of the world, under a master
-- that has the epoch of each node and none above the greatest. The log is within the cap, or was found longer, up to 2^62 bytes.
pub record MayHold (cap : ℕ) (w : World) (place : Option Place) (r : Recorded) : Type 0 where
  pub log : List Record
  pub found : IsFound w.doubt place w.log log r
  pub site : IsSiteFile r.bodies (system_of log)
  pub cap_is : r.says.cap ≡ cap
  pub fits : size_of r.bodies ≤ max cap (2 ^ 62)
  pub epoch : r.says.epoch ≤ w.greatest
  pub recorded : AllByRecursion (λ (held : ℕ). held ≤ r.says.epoch) w.held

-- files that hold something of which this is so
pub record SomeHold (P : Recorded → Type 0) (files : CrashState) : Type 0 where
  pub recorded : Recorded
  pub holds : Holds files recorded
  pub is : P recorded

-- the files as they read, and each crash state, hold such a thing
pub record AllHold {D : Type 0} (m : Meaning D) (P : Recorded → Type 0) (disk : D) : Type 0 where
  pub reads : SomeHold P (m.seen disk)
  pub crash : (crashed : CrashState) → IsLeft (m.may_leave disk) crashed → SomeHold P crashed
