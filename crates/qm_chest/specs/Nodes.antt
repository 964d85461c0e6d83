-- Nodes of a cluster, by whether each is live, and by their names.
use Rattle.std.specs.Prelude.{ℕ, Bool, true, false, not, ◌&&◌, List, [], ◌∷◌, filter, map, bytes_eq}
use Rattle.qm_history.specs.Common.{Node, is_among}
use Rattle.qm_chest.specs.declared.nodes.Which.{Which}
use Rattle.qm_chest.specs.declared.nodes.Which.TheVariants.{Lost, Live}

-- the node is one of those
abbrev pub is_one : Which → Bool → Node → Bool
is_one Lost = λ live n. n.up && not live
is_one Live = λ live n. live

-- these are their names, in their order
abbrev pub are_called : List Node → List (List ℕ) → Bool
are_called [] [] = true
are_called (n ∷ nodes) (name ∷ names) = bytes_eq n.name name && are_called nodes names
are_called [] (name ∷ names) = false
are_called (n ∷ nodes) [] = false

-- the names of those that are among these, in the cluster's order
abbrev pub nodes_among : List (List ℕ) → List Node → List (List ℕ)
nodes_among names nodes = filter (is_among names) (map (λ n. n.name) nodes)

-- the same, where an empty list stands for all nodes
abbrev pub nodes_listed : List Node → List (List ℕ) → List (List ℕ)
nodes_listed nodes [] = map (λ n. n.name) nodes
nodes_listed nodes (name ∷ names) = nodes_among (name ∷ names) nodes
