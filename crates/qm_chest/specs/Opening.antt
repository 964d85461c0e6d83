-- A chest that was just opened, and the scripts that can be served there.
-- OpenVMS System Manager's Manual, Managing the Queue Manager and Queue Database, on starting the queue manager.
use Rattle.std.specs.Prelude.{◌≡◌, ◌≤◌, ◌<◌, ◌^◌, ℕ, IsTrue, List, [], length, slice_get, Some, Result, Ok, Err}
use Rattle.qm_chest.specs.At.{IsAt, IsServing, chest_disk, chest_names, chest_turns}
use Rattle.qm_chest.specs.Noting.{StandsSince, StartsEarly}
use Rattle.qm_chest.specs.declared.chest.Chest.{Chest}
use Rattle.qm_disk.specs.Disk.{Meaning, IsQuiet, OnlyLooks}
use Rattle.qm_history.specs.Common.{OpenFault, cluster, script_lines, UserLine, system_in, NODES_LIMIT}
use Rattle.qm_history.specs.declared.world.World.{World}

-- the names of a cluster's nodes, each there once
pub record AreNames (names : List (List ℕ)) : Type 0 where
  pub few : length names ≤ NODES_LIMIT
  pub distinct : (i j : ℕ) (name : List ℕ) → slice_get names i ≡ Some name → slice_get names j ≡ Some name → i ≡ j

-- these are the lines of some script for a cluster of these nodes
abbrev pub IsScriptOf : List (List ℕ) → List UserLine → Type 0
IsScriptOf names script = (text : List ℕ) × (script_lines (Some names) text ≡ Ok script)

module _ {D : Type 0} (m : Meaning D) where
  -- no turn was made so far, and the first one can be
  pub record IsFresh (chest : Chest D) : Type 0 where
    pub turns : chest_turns chest ≡ []
    pub serving : IsServing m chest
    pub names : AreNames (chest_names chest)

  -- A program can begin on the device in this world: its files hold it, and its count of faults is a number of 64 bits.
  pub record MayBegin (disk : D) (w : World) : Type 0 where
    pub starts : StartsEarly (m.seen disk) w
    pub counted : m.faults disk < 2 ^ 64

  -- The device was opened. It was only looked at, and didn't fail; the nodes are those of its files; and the chest stands for the
  -- world with which a program begins there, and for no note since it was opened.
  pub record IsOpened (disk : D) (chest : Chest D) : Type 0 where
    pub looks : OnlyLooks m disk (chest_disk chest)
    pub quiet : IsQuiet m disk (chest_disk chest)
    pub fresh : IsFresh chest
    pub begins : IsTrue m.tells → (w : World) × StartsEarly (m.seen disk) w
    pub names : IsTrue m.tells → (w : World) → StartsEarly (m.seen disk) w → cluster (system_in w) ≡ chest_names chest
    pub cap : ℕ
    pub at : IsTrue m.tells → (w : World) → StartsEarly (m.seen disk) w → IsAt m cap w chest
    pub stands : IsTrue m.tells → (w : World) → MayBegin disk w → StandsSince m cap w (chest_disk chest) chest 0 []

-- the device behind an opening
abbrev pub disk_opened : {D : Type 0} → Result (Chest D) (D × OpenFault) → D
disk_opened (Ok chest) = chest_disk chest
disk_opened (Err failed) = failed.0
