-- What a site stands for that its nodes share in turns.
-- OpenVMS System Manager's Manual, Managing the Queue Manager and Queue Database, on the queue manager process and its files.
-- This site's own: the notes of turns.
use Rattle.std.specs.Prelude.{◌≡◌, ◌+◌, ◌≤◌, ℕ, IsTrue, List, [], length}
use Rattle.qm_acting.specs.Spare.{KeepsSpare}
use Rattle.qm_chest.specs.At.{IsServing, chest_disk, chest_names, chest_turns}
use Rattle.qm_chest.specs.Noting.{StandsSince, chest_told}
use Rattle.qm_node.specs.Taken.{RoseBy}
use Rattle.qm_history.specs.Common.{Meaning, faults_told}
use Rattle.qm_history.specs.declared.world.World.{World}
use Rattle.qm_history.specs.Chest.{Chest as ToldChest, Note, Stands, turns_kept, unread_of}
use Rattle.qm_chest.specs.Noted.{AreServed}
use Rattle.qm_chest.specs.Opening.{MayBegin}
use Rattle.qm_chest.specs.declared.chest.Chest.{Chest}

module _ {D : Type 0} (m : Meaning D) where
  -- It began in this world on this device, with no note. The calls that are noted were served one behind another, and it stands
  -- for their notes.
  pub record HasNotedIn (w : World) (began : D) (chest : Chest D) (failed : ℕ) (notes : List Note) : Type 0 where
    pub cap : ℕ
    pub first : ToldChest D
    pub begins : Stands m w began first []
    pub on : first.disk ≡ began
    pub calls : AreServed m w began [] first notes (chest_told chest failed)
    pub since : StandsSince m cap w began chest failed notes

  -- It began on a device as it was then, with nodes of these names, and stands for the notes of its calls. The next call can be
  -- served. So many calls of disks failed as the turns tell, but for those whose calls weren't told so. Where the disks tell, the
  -- queue file that isn't live stays; and in each world with which a program can begin on the device the calls are noted so.
  pub record HasStood (began : D) (names : List (List ℕ)) (chest : Chest D) (notes : List Note) : Type 0 where
    pub serving : IsServing m chest
    pub names_are : chest_names chest ≡ names
    pub few : length (chest_turns chest) ≤ turns_kept
    pub failed : ℕ
    pub told : faults_told (chest_turns chest) ≡ failed + unread_of notes
    pub rose : RoseBy failed (m.faults began) (m.faults (chest_disk chest))
    pub spare : IsTrue m.tells → KeepsSpare m began (chest_disk chest)
    pub within : IsTrue m.tells → (w : World) → MayBegin m began w → HasNotedIn w began chest failed notes
