-- What the loss of nodes does to the jobs that run there.
-- OpenVMS System Manager's Manual, Setting Up and Maintaining Queues, on jobs that restart; DCL Dictionary, SUBMIT and PRINT, /RESTART.
-- This site's own: that a queue keeps its state when its node is lost.
use Rattle.std.specs.Prelude.{ℕ, not, ◌&&◌, if◌then◌else◌, List, map, filter_map, Option, Some}
use Rattle.qm_kinds.specs.declared.entry.Entry.{Entry}
use Rattle.qm_kinds.specs.declared.entry.EntryState.{EntryState}
use Rattle.qm_kinds.specs.declared.entry.EntryState.TheVariants.{Pending, Holding, Timed, Running, Aborting, Retained}
use Rattle.qm_kinds.specs.declared.queue.Queue.{Queue}
use Rattle.qm_kinds.specs.declared.system.Node.{Node}
use Rattle.qm_kinds.specs.declared.system.System.{System}
use Rattle.qm_model.specs.Ending.{node_lost_status, ended, requeued, fated}
use Rattle.qm_model.specs.Find.{is_among}

-- a job that may restart goes back into its queue, and another one ends
abbrev pub interrupted : List Queue → ℕ → Entry → Option Entry
interrupted queues now e = if e.restart then Some (requeued e) else ended queues now node_lost_status e

-- what becomes of an entry in this state when these nodes are lost
abbrev pub after_loss : List Queue → ℕ → List (List ℕ) → EntryState → Entry → Option Entry
after_loss queues now lost Pending e = Some e
after_loss queues now lost Holding e = Some e
after_loss queues now lost (Timed at) e = Some e
after_loss queues now lost (Running queue node run) e = if is_among lost node then interrupted queues now e else Some e
after_loss queues now lost (Aborting queue node run fate) e = if is_among lost node then fated queues now fate e else Some e
after_loss queues now lost (Retained status until) e = Some e

-- the node is down, if it is one of these
abbrev pub without_node : List (List ℕ) → Node → Node
without_node lost n = record n { up = n.up && not (is_among lost n.name) }

-- the nodes are down, and none of their jobs runs any more
abbrev pub without_nodes : System → ℕ → List (List ℕ) → System
without_nodes s now lost = record s {
  nodes = map (without_node lost) s.nodes;
  entries = filter_map (λ e. after_loss s.queues now lost e.state e) s.entries;
}
