-- What nodes leave of a site on which they made turns, whichever came first.
-- OpenVMS System Manager's Manual, Managing the Queue Manager and Queue Database, on the queue manager process and its files.
-- This site's own: turns.
use Rattle.std.specs.Prelude.{◌≡◌, ◌+◌, ◌≤◌, ℕ, IsTrue, List, length}
use Rattle.qm_acting.specs.Spare.{KeepsSpare}
use Rattle.qm_node.specs.Taken.{RoseBy}
use Rattle.qm_history.specs.Common.{Meaning, turns_kept, faults_told, IsLegal}
use Rattle.qm_history.specs.declared.turn.Turn.{Turn}
use Rattle.qm_history.specs.declared.world.World.{World}
use Rattle.qm_chest.specs.Noted.{HasNoted}
use Rattle.qm_chest.specs.Opening.{MayBegin}

-- a count of disks' calls that failed rose as often as turns tell so, but for so many of which the calls weren't told
pub record IsToldBut (unread : ℕ) (turns : List Turn) (old new : ℕ) : Type 0 where
  pub failed : ℕ
  pub told : faults_told turns ≡ failed + unread
  pub rose : RoseBy failed old new

module _ {D : Type 0} (m : Meaning D) where
  -- In a world with which a program begins: the turns are a legal history, and all calls are noted, each of which did to the
  -- device, as the one before left it, what histories say.
  pub record ServesNodesIn (w : World) (old new : D) (turns : List Turn) : Type 0 where
    pub legal : IsLegal w turns
    pub noted : HasNoted m w old new turns

  -- Nodes made these turns on a site that was opened on this device. The turns tell how often disks failed, but for so many of
  -- which the calls weren't told. Where the disks tell, the queue file that isn't live stays, and in the world with which a program
  -- begins on the device they were made so.
  pub record ServesNodes (opened old new : D) (turns : List Turn) (unread : ℕ) : Type 0 where
    pub few : length turns ≤ turns_kept
    pub failed : IsToldBut unread turns (m.faults old) (m.faults new)
    pub spare : IsTrue m.tells → KeepsSpare m old new
    pub within : IsTrue m.tells → (w : World) → MayBegin m opened w → ServesNodesIn w old new turns
