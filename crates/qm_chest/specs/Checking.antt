-- What was read of a site's files before a chest begins on them, and how it begins.
-- OpenVMS System Manager's Manual, Managing the Queue Manager and Queue Database, on starting the queue manager.
use Rattle.std.specs.Prelude.{◌≡◌, ◌<◌, ◌^◌, ℕ, true, IsTrue, List, [], length, map, replicate, Result, Ok, Err}
use Rattle.qm_history.specs.Common.{CrashState, Meaning, size_of, OpenFault, Node, System, system_of, record_text, cluster, Starts, first_world, IsSound}
use Rattle.qm_store.specs.Recorded.{Recorded, Holds}
use Rattle.qm_acting.specs.Reading.{IsRestoreFault}
use Rattle.qm_acting.specs.Standing.{Standing, restored_standing, restored_disk, IsRestored}
use Rattle.qm_history.specs.declared.world.World.{World}
use Rattle.qm_chest.specs.At.{IsAt, IsServing, chest_disk, chest_names}
use Rattle.qm_chest.specs.declared.members.Members.{Members}
use Rattle.qm_chest.specs.declared.checked.Checked.{Checked}
use Rattle.qm_chest.specs.declared.chest.Chest.{Chest}

-- the system for which the files stand, and what they hold
abbrev pub checked_standing : {D : Type 0} → Checked D → Standing
checked_standing checked = restored_standing checked.restored

abbrev pub checked_disk : {D : Type 0} → Checked D → D
checked_disk checked = restored_disk checked.restored

-- The files are those of a site, no crash can take any of it away, and more epochs can come.
pub record IsChecked {D : Type 0} (m : Meaning D) (checked : Checked D) : Type 0 where
  pub restored : IsRestored m checked.restored
  pub epoch : (checked_standing checked).recorded.says.epoch < 2 ^ 62
  pub reach : size_of (checked_standing checked).recorded.bodies < 2 ^ 62

-- Of files that hold this a program begins in this world: its log is what the files hold, and stands for their system.
pub record BeginsWorld (r : Recorded) (s : System) (w : World) : Type 0 where
  pub first : w ≡ first_world w.log r.says.epoch
  pub spelled : r.bodies ≡ map record_text w.log
  pub system : system_of w.log ≡ s
  pub sound : IsSound w

-- what the files hold, or why they are those of no site
abbrev pub Checks : {D : Type 0} → CrashState → Result (Checked D) (D × OpenFault) → Type 0
Checks files (Ok checked) = Holds files (checked_standing checked).recorded
Checks files (Err failed) = IsRestoreFault files failed.1

-- the device after it
abbrev pub disk_checked : {D : Type 0} → Result (Checked D) (D × OpenFault) → D
disk_checked (Ok checked) = checked_disk checked
disk_checked (Err failed) = failed.0

-- The chest has no turns so far, over the device that was read. Where the disks tell, it stands for each world with which a program
-- can begin on these files.
pub record Begins {D : Type 0} (m : Meaning D) (checked : Checked D) (chest : Chest D) : Type 0 where
  pub disk : chest_disk chest ≡ checked_disk checked
  pub names : chest_names chest ≡ cluster (checked_standing checked).system
  pub turns : chest.turns.items ≡ []
  pub serving : IsServing m chest
  pub at : IsTrue m.tells → (w : World) → Starts (m.seen (checked_disk checked)) w
      → IsAt m (checked_standing checked).recorded.says.cap w chest

-- what is kept of these nodes before the first call: each is live, and none holds an epoch
pub record AreFirstMembers (nodes : List Node) (greatest : ℕ) (members : Members) : Type 0 where
  pub names : members.names.items ≡ map (λ (n : Node). n.name) nodes
  pub live : members.live.items ≡ replicate (length nodes) true
  pub held : members.held.items ≡ replicate (length nodes) 0
  pub greatest_is : members.greatest ≡ greatest
