-- Which nodes are up, and which entries have a run on some of them.
use Rattle.std.specs.Prelude.{ℕ, Bool, false, List}
use Rattle.std.specs.Option.{option_map_or}
use Rattle.qm_model.specs.Common.{Entry, Node, is_among, runs_on, without_node}
use Rattle.qm_model.specs.Nodes.{as_up, up_exactly}
use Rattle.qm_parts.specs.declared.nodes.NodeChange.{NodeChange}
use Rattle.qm_parts.specs.declared.nodes.NodeChange.TheVariants.{Up, Down, Exactly}

-- the node after the change
abbrev pub changed_node : NodeChange → Node → Node
changed_node (Up name) = as_up name.now
changed_node (Down names) = without_node names.now
changed_node (Exactly names) = up_exactly names.now

-- the entry has a run on one of these nodes
abbrev pub is_run_on_one : List (List ℕ) → Entry → Bool
is_run_on_one nodes e = option_map_or (is_among nodes) (runs_on e.state) false
