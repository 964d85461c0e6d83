-- Nodes come up and are lost, and a node takes the role of the queue manager.
-- OpenVMS System Manager's Manual, Managing the Queue Manager and Queue Database, on failover; DCL Dictionary, START/QUEUE/MANAGER.
-- This site's own: START/QUEUE/MANAGER as a move to the calling node, the list of nodes without preference, and epochs.
use Rattle.std.specs.Prelude.{ℕ, ◌||◌, List, map, bytes_eq}
use Rattle.qm_kinds.specs.declared.reply.Act.TheVariants.{Ticked, NodeStarted, NodeStopped, Managing}
use Rattle.qm_kinds.specs.declared.system.Node.{Node}
use Rattle.qm_kinds.specs.declared.system.System.{System}
use Rattle.qm_model.specs.Outcome.{Accepted}
use Rattle.qm_model.specs.Find.{is_among}
use Rattle.qm_model.specs.Losing.{without_nodes}
use Rattle.qm_model.specs.Replying.{replied}

-- the manager looks at the clock: nothing changes but what is due
abbrev pub ticked : System → Accepted
ticked s = replied s Ticked

-- the node is up, if it is the one of the name
abbrev pub as_up : List ℕ → Node → Node
as_up name n = record n { up = n.up || bytes_eq n.name name }

-- the node of the name is up
abbrev pub node_up : System → List ℕ → Accepted
node_up s node = replied (record s { nodes = map (as_up node) s.nodes }) (NodeStarted node)

-- the nodes are down, and none of their jobs runs
abbrev pub nodes_lost : System → ℕ → List ℕ → List (List ℕ) → Accepted
nodes_lost s now node lost = replied (without_nodes s now lost) (NodeStopped node)

-- the node is up if it is one of these, and else down
abbrev pub up_exactly : List (List ℕ) → Node → Node
up_exactly up n = record n { up = is_among up n.name }

-- the new manager finds some nodes gone and some up, and says which nodes may be manager after it
abbrev pub with_manager : System → ℕ → List (List ℕ) → List (List ℕ) → List (List ℕ) → System
with_manager s now gone up may =
    let left = without_nodes s now gone in
    record left { nodes = map (up_exactly up) left.nodes; may = may }

-- the node is the new manager
abbrev pub taken_over : System → ℕ → List ℕ → ℕ → List (List ℕ) → List (List ℕ) → List (List ℕ) → Accepted
taken_over s now node epoch gone up may = replied (with_manager s now gone up may) (Managing node epoch)
