-- A new site of several nodes.
-- OpenVMS System Manager's Manual, Managing the Queue Manager and Queue Database, on creating a queue database.
use Rattle.std.specs.Prelude.{ℕ, Bool, true, nat_lt, nat_le, not, ◌&&◌, List, [], ◌∷◌, length, map, bytes_eq}
use Rattle.std.specs.List.{list_any, list_all}
use Rattle.qm_history.specs.Common.{NODES_LIMIT, NODE_NAME_BYTES, Record, Node, System, first_name, first_form, first_queue, image_of}

-- the names of nodes, in their order
abbrev pub names_of : List Node → List (List ℕ)
names_of nodes = map (λ n. n.name) nodes

-- The system of a new site of these nodes, which are up or down: each may be manager, the form and the batch queue of a new site
-- are there, the queue on the first node, and numbers begin at 1, at the first moment.
abbrev pub new_system : List Node → System
new_system nodes = record {
  nodes = nodes;
  may = names_of nodes;
  forms = first_form ∷ [];
  characteristics = [];
  files = [];
  queues = first_queue (first_name (names_of nodes)) ∷ [];
  entries = [];
  next_entry = 1;
  next_run = 1;
  last = 0;
}

-- the rows with which the queue file of a new site begins
abbrev pub new_rows : List Node → List Record
new_rows nodes = image_of (new_system nodes)

-- no name stands twice
abbrev pub are_distinct : List Node → Bool
are_distinct [] = true
are_distinct (node ∷ nodes) = not (list_any (λ other. bytes_eq node.name other.name) nodes) && are_distinct nodes

-- a site can have these nodes: at least one and not too many, each under a short name of its own
abbrev pub are_nodes : List Node → Bool
are_nodes nodes =
    nat_lt 0 (length nodes) && nat_le (length nodes) NODES_LIMIT && list_all (λ node. nat_le (length node.name) NODE_NAME_BYTES) nodes && are_distinct nodes
