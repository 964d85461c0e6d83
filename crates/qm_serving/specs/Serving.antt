-- What serving a script on a site leaves.
-- OpenVMS System Manager's Manual, Setting Up and Maintaining Queues, and Managing the Queue Manager and Queue Database.
-- This site's own: lines in their order, and then the nodes in the cluster's.
use Rattle.std.specs.Prelude.{ℕ, IsTrue, List, Option}
use Rattle.qm_acting.specs.Spare.{KeepsSpare}
use Rattle.qm_cluster.specs.Runs.{IsRun}
use Rattle.qm_node.specs.Sides.{Side}
use Rattle.qm_history.specs.Common.{Meaning, ServingEnd, UserLine, text}
use Rattle.qm_history.specs.declared.turn.Turn.{Turn}
use Rattle.qm_history.specs.declared.world.World.{World}
use Rattle.qm_sjc.specs.Printed.{items_line}
use Rattle.qm_cluster.specs.Ends.{CountsDisk, EndsBy, IsUndamaged, TakesTo, extent_to, stop_of}
use Rattle.qm_chest.specs.Noted.{HasNoted}
use Rattle.qm_chest.specs.Opening.{MayBegin}
use Rattle.qm_chest.specs.Manager.{meaning_of}
use Rattle.qm_symb.specs.Device as symb

-- what serving touches: the disk, what the sink took so far, where it tells it, and what each node has of its own
pub record Outside (D Y : Type 0) : Type 0 where
  pub disk : D
  pub taken : Option (List ℕ)
  pub sides : List (Side Y)

abbrev pub outside : {D Y : Type 0} → D → Option (List ℕ) → List (Side Y) → Outside D Y
outside disk taken sides = record { disk = disk; taken = taken; sides = sides }

module _ {D Y : Type 0} (m : Meaning D) (y : symb.Meaning Y) where
  -- In a world with which a program begins: the turns are a run of the script by these nodes, the sink took their text, and all
  -- calls are noted; all as far as the end says.
  pub record ServesIn (w : World) (names : List (List ℕ)) (script : List UserLine) (old new : Outside D Y) (turns : List Turn) (end : ServingEnd) : Type 0 where
    pub run : IsRun (meaning_of m) y (extent_to (stop_of end)) w script names turns old.sides new.sides
    pub printed : TakesTo (stop_of end) old.taken new.taken (text items_line w turns)
    pub noted : HasNoted m w old.disk new.disk turns

  -- A script of these nodes was served, up to this end, on a site that was opened on this device. The turns tell how often disks failed,
  -- and where the disks tell, no file is told as one that isn't sound, and the queue file that isn't live stays; and in the world with
  -- which a program begins on the device it was served so.
  pub record Serves (opened : D) (names : List (List ℕ)) (script : List UserLine) (old new : Outside D Y) (turns : List Turn) (end : ServingEnd) : Type 0 where
    pub ends : EndsBy end turns
    pub failed : CountsDisk (stop_of end) turns (m.faults old.disk) (m.faults new.disk)
    pub undamaged : IsTrue m.tells → IsUndamaged end
    pub spare : IsTrue m.tells → KeepsSpare m old.disk new.disk
    pub within : IsTrue m.tells → (w : World) → MayBegin m opened w → ServesIn w names script old new turns end
