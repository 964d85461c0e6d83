-- What serving the lines of a script leaves, each node by a thread of its own.
-- OpenVMS System Manager's Manual, Setting Up and Maintaining Queues, and Managing the Queue Manager and Queue Database.
-- This site's own: turns, and the order of what is printed.
use Rattle.std.specs.Prelude.{◌≡◌, ◌≤◌, ℕ, IsTrue, List, length, slice_get, Option, None, Some}
use Rattle.qm_acting.specs.Spare.{KeepsSpare}
use Rattle.qm_node.specs.Asking.{read_built}
use Rattle.qm_node.specs.Sides.{Side}
use Rattle.qm_node.specs.Taken.{AreTaken, AreTold, Rises}
use Rattle.qm_node.specs.declared.turn.TurnEnd.{TurnEnd}
use Rattle.qm_node.specs.declared.turn.TurnEnd.TheVariants as stop
use Rattle.qm_history.specs.Common.{Meaning, Extent, IsCourse, Whole, ServingEnd, UserLine, lines_of, cluster_text, visits_of}
use Rattle.qm_history.specs.declared.turn.Turn.{Turn}
use Rattle.qm_history.specs.declared.world.World.{World}
use Rattle.qm_cluster.specs.Ends.{EndsBy, IsUndamaged, TakesTo, stop_of}
use Rattle.qm_chest.specs.Opening.{MayBegin}
use Rattle.qm_serving.specs.Serving.{Outside}
use Rattle.qm_serving.specs.SiteServing.{IsToldBut, ServesNodesIn}
use Rattle.qm_sjc.specs.Printed.{items_line}
use Rattle.qm_symb.specs.Device as symb

-- In how many turns a disk may have failed whose calls weren't told so: in one for each node whose turns ended for want of memory, or
-- at a damaged file.
abbrev pub MayHide : Option TurnEnd → ℕ → ℕ → Type 0
MayHide None nodes unread = unread ≡ 0
MayHide (Some stop.Write) nodes unread = unread ≡ 0
MayHide (Some stop.HistoryFull) nodes unread = unread ≡ 0
MayHide (Some (stop.Damaged file place)) nodes unread = unread ≤ nodes
MayHide (Some stop.NoMemory) nodes unread = unread ≤ nodes

-- disks failed as often as turns tell so, but for those turns
pub record CountsDisk (stopped : Option TurnEnd) (nodes : ℕ) (turns : List Turn) (old new : ℕ) : Type 0 where
  pub unread : ℕ
  pub hidden : MayHide stopped nodes unread
  pub told : IsToldBut unread turns old new

module _ {Y : Type 0} (y : symb.Meaning Y) (w : World) (turns : List Turn) where
  -- A node's turns in a history are a course of its lines, by its symbiont's count of faults and the moments that its clock told; its
  -- devices took the blocks of its steps.
  pub record IsNodeOf (extent : Extent) (node : ℕ) (lines : List UserLine) (was now : Side Y) : Type 0 where
    pub faults : ℕ
    pub course : IsCourse read_built extent w turns node lines faults
    pub rose : Rises y faults was.symbiont now.symbiont
    pub told : AreTold extent (visits_of node w turns) was.told now.told
    pub taken : AreTaken y course.steps course.broken was.symbiont now.symbiont

  -- Each node's turns are so: whole where nothing stopped a node, and else each as far as its node came.
  abbrev pub AreNodesOf : Option TurnEnd → List (List ℕ) → List UserLine → List (Side Y) → List (Side Y) → Type 0
  AreNodesOf stopped names script was now =
      (node : ℕ) (name : List ℕ) (before after : Side Y) → slice_get names node ≡ Some name → slice_get was node ≡ Some before → slice_get now node ≡ Some after
      → (extent : Extent) × (stopped ≡ None → extent ≡ Whole) × IsNodeOf extent node (lines_of name script) before after

module _ {D Y : Type 0} (m : Meaning D) (y : symb.Meaning Y) where
  -- In a world with which a program begins: the turns are a legal history, each of which did to the device what histories say, the
  -- nodes' own are their courses, and the sink took the text of the cluster; all as far as the end says.
  pub record ServesIn (w : World) (names : List (List ℕ)) (script : List UserLine) (old new : Outside D Y) (turns : List Turn) (end : ServingEnd) : Type 0 where
    pub site : ServesNodesIn m w old.disk new.disk turns
    pub nodes : AreNodesOf y w turns (stop_of end) names script old.sides new.sides
    pub printed : TakesTo (stop_of end) old.taken new.taken (cluster_text items_line w turns)

  -- A script of these nodes was served, up to this end, on a site that was opened on this device, each node by a thread of its own. The
  -- turns tell how often disks failed, and where the disks tell, no file is told as one that isn't sound, and the queue file that isn't
  -- live stays; and in the world with which a program begins on the device it was served so.
  pub record ServesAtOnce (opened : D) (names : List (List ℕ)) (script : List UserLine) (old new : Outside D Y) (turns : List Turn) (end : ServingEnd) : Type 0 where
    pub ends : EndsBy end turns
    pub failed : CountsDisk (stop_of end) (length names) turns (m.faults old.disk) (m.faults new.disk)
    pub undamaged : IsTrue m.tells → IsUndamaged end
    pub spare : IsTrue m.tells → KeepsSpare m old.disk new.disk
    pub within : IsTrue m.tells → (w : World) → MayBegin m opened w → ServesIn w names script old new turns end
