-- What a run leaves of the disk, the sink, and the nodes' clocks and symbionts, by its end.
use Rattle.std.specs.Prelude.{◌≡◌, ◌⊎◌, ℕ, List, [], Option, Some, None, IsTrue}
use Rattle.qm_acting.specs.Reading.{IsRestoreFault}
use Rattle.qm_acting.specs.Spare.{KeepsSpare}
use Rattle.qm_serving.specs.ClusterServing.{ServesAtOnce}
use Rattle.qm_disk.specs.Disk.{Meaning, IsQuiet, OnlyLooks}
use Rattle.qm_glog.specs.declared.fault.OpenFault.TheVariants as opening
use Rattle.qm_history.specs.Common.{ServingEnd, UserLine}
use Rattle.qm_history.specs.Ends as serving
use Rattle.qm_history.specs.declared.turn.Turn.{Turn}
use Rattle.qm_serving.specs.Serving.{Outside, Serves}
use Rattle.qm_symb.specs.Device as symb
use Rattle.qm_program.specs.Causes.{HasCause}
use Rattle.qm_program.specs.Ends.{IsBehindText}
use Rattle.qm_program.specs.Reading.{AreKnown, HoldCluster, IsRead, IsScript, OfScript}
use Rattle.qm_program.specs.declared.outcome.End.{End}
use Rattle.qm_program.specs.declared.outcome.End.TheVariants as ends

module _ {D Y : Type 0} (m : Meaning D) where
  -- the outside is as it was, and no turn was made
  abbrev pub Stays : List Turn → Outside D Y → Outside D Y → Type 0
  Stays turns old new = (new ≡ old) × (turns ≡ [])

  -- Nothing was served: the disk was looked at alone, so its files read as they did, and a crash leaves what it might leave before; the
  -- sink, the clocks and the symbionts are as they were.
  pub record TouchesNothing (turns : List Turn) (old new : Outside D Y) : Type 0 where
    pub disk : OnlyLooks m old.disk new.disk
    pub taken : new.taken ≡ old.taken
    pub sides : new.sides ≡ old.sides
    pub none : turns ≡ []

  -- Files that aren't those of a site, or can't be read, end a run only where what the source had left is a script of some cluster.
  abbrev pub IsUnopened : Option (List ℕ) → List Turn → Outside D Y → Outside D Y → Type 0
  IsUnopened left turns old new = TouchesNothing turns old new × IsScript None left

  -- Memory ran out before a line was served: as the files were read, whose master begins with a record; or behind a whole script.
  abbrev pub LacksMemory : Option (List ℕ) → List Turn → Outside D Y → Outside D Y → Type 0
  LacksMemory left turns old new =
      TouchesNothing turns old new
      × ((IsQuiet m old.disk new.disk × (IsTrue m.tells → IsRestoreFault (m.seen old.disk) opening.NoMemory))
      ⊎ ((names : Option (List (List ℕ))) × AreKnown m.tells (m.seen old.disk) (m.faults old.disk) (m.faults new.disk) names × IsScript names left))

  -- how the lines of a script were served: on a site that was opened on this device, of nodes of these names, up to this end
  module _ (lines_served : D → List (List ℕ) → List UserLine → Outside D Y → Outside D Y → List Turn → ServingEnd → Type 0) where
    -- What a source had left is a script of the cluster of the disk's files. The disk was opened, which looked at it alone and didn't
    -- fail, and the script's lines were served from there on, up to this end.
    pub record ServesScript (left : Option (List ℕ)) (turns : List Turn) (old new : Outside D Y) (end : ServingEnd) : Type 0 where
      pub names : List (List ℕ)
      pub cluster : IsTrue m.tells → HoldCluster (m.seen old.disk) names
      pub opened : D
      pub looks : OnlyLooks m old.disk opened
      pub quiet : IsQuiet m old.disk opened
      pub served : OfScript (Some names) left (λ lines. lines_served old.disk names lines (record old { disk = opened }) new turns end)

    -- What serving a script leaves that a source had left, by its end. At Ok and Journal the script was served whole, and at Write and
    -- HistoryFull up to a turn; at Damaged and NoMemory up to a turn, or not at all. Before a line is served the files are only looked
    -- at; at Read, and where a script is too long, nothing is touched.
    abbrev pub ServesTo : Option (List ℕ) → List Turn → Outside D Y → Outside D Y → End → Type 0
    ServesTo left turns old new ends.Ok = ServesScript left turns old new serving.Served
    ServesTo left turns old new ends.Usage = ⊥
    ServesTo left turns old new ends.Read = Stays turns old new
    ServesTo left turns old new (ends.Script line kind) = Stays turns old new ⊎ TouchesNothing turns old new
    ServesTo left turns old new ends.Write = ServesScript left turns old new serving.SinkFailed
    ServesTo left turns old new ends.Journal = IsUnopened left turns old new ⊎ ServesScript left turns old new serving.DiskFailed
    ServesTo left turns old new (ends.Unformatted byte) = IsUnopened left turns old new
    ServesTo left turns old new (ends.Damaged file place) =
        IsUnopened left turns old new ⊎ ServesScript left turns old new (serving.Damaged file place)
    ServesTo left turns old new ends.HistoryFull = ServesScript left turns old new serving.HistoryFull
    ServesTo left turns old new ends.NoMemory =
        Stays turns old new ⊎ (LacksMemory left turns old new ⊎ ServesScript left turns old new serving.NoMemory)

    -- Behind a whole text, which is what a source had left, a run ends so: the end has its cause, of which so many failures of the sink
    -- before and now are part; and this is left.
    pub record EndsBehind (text : List ℕ) (turns : List Turn) (old new : Outside D Y) (sink later : ℕ) (end : End) : Type 0 where
      pub behind : IsBehindText end
      pub cause : (left : Option (List ℕ)) (source : ℕ) → IsRead left text
          → HasCause m.tells (m.seen old.disk) left turns (record { source = source; sink = sink; disk = m.faults old.disk })
          (record { source = source; sink = later; disk = m.faults new.disk }) end
      pub serves : (left : Option (List ℕ)) → IsRead left text → ServesTo left turns old new end
      pub spare : IsTrue m.tells → KeepsSpare m old.disk new.disk

module _ {D Y : Type 0} (m : Meaning D) (y : symb.Meaning Y) where
  -- what a run leaves, whose lines one thread serves in their order
  abbrev pub RunsTo : Option (List ℕ) → List Turn → Outside D Y → Outside D Y → End → Type 0
  RunsTo left turns old new end = ServesTo m (Serves m y) left turns old new end

  -- and what it leaves where each node is served by a thread of its own
  abbrev pub RunsAtOnce : Option (List ℕ) → List Turn → Outside D Y → Outside D Y → End → Type 0
  RunsAtOnce left turns old new end = ServesTo m (ServesAtOnce m y) left turns old new end
