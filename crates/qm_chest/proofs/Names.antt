-- The names of the nodes, by their places.
use Rattle.std.proofs.Common.{◌≡◌, ℕ, zero, suc, ◌<◌, List, [], ◌∷◌, length, map, refl, ap, subst, arith, Option, Some, slice_get}
use Rattle.qm_history.specs.Common.{Node, Input, System, node_at, cluster, IsFromOutside}
use Rattle.qm_kinds.specs.declared.input.Input.TheVariants as input
use Rattle.qm_chest.specs.At.{CanBeAskedFor}

-- the name at a place of the cluster is that of its node
name_of : (place : ℕ) (nodes : List Node) → place < length nodes → slice_get (map (λ (n : Node). n.name) nodes) place ≡ Some (node_at place nodes)
name_of place [] there = absurd (omega arith)
name_of zero (n ∷ nodes) there = refl
name_of (suc place) (n ∷ nodes) there = name_of place nodes (omega arith)

-- a place within a list of names has one
pub name_at : (place : ℕ) (names : List (List ℕ)) → place < length names → (name : List ℕ) × (slice_get names place ≡ Some name)
name_at place [] there = absurd (omega (arith, there))
name_at zero (name ∷ names) there = (name, refl)
name_at (suc place) (name ∷ names) there = name_at place names (omega (arith, there))

same_length : (nodes : List Node) → length (map (λ (n : Node). n.name) nodes) ≡ length nodes
same_length [] = refl
same_length (n ∷ nodes) = let more = same_length nodes in ap suc more

-- a place within the names has a name, which is that of the node there
pub name_there : (place : ℕ) (nodes : List Node) (names : List (List ℕ)) → map (λ (n : Node). n.name) nodes ≡ names → place < length names
    → (name : List ℕ) × (slice_get names place ≡ Some name) × (name ≡ node_at place nodes)
name_there place nodes names is there =
    let within : place < length nodes = omega (arith, there, ap length is, same_length nodes) in
    (node_at place nodes, subst (λ (l : List (List ℕ)). slice_get l place ≡ Some (node_at place nodes)) is (name_of place nodes within), refl)

-- two names that stand in one place are one
pub one_name : (x y : List ℕ) → ◌≡◌ {A = Option (List ℕ)} (Some x) (Some y) → x ≡ y
one_name x y is = cc

-- a place within the names of the cluster is one of its nodes
pub node_within : (s : System) (names : List (List ℕ)) (place : ℕ) → cluster s ≡ names → place < length names → place < length s.nodes
node_within s names place is there = omega (arith, there, ap length is, same_length s.nodes)

-- what can be asked for comes from outside
pub outside_of : (node : ℕ) (asked : Input) → CanBeAskedFor node asked → IsFromOutside asked
outside_of node (input.Ask asked) can = can.outside
outside_of node (input.Show query) can = tt
outside_of node (input.Fetch known) can = tt
outside_of node input.Compact can = tt
outside_of node (input.TakeManager on) can = tt
outside_of node input.StartNode can = tt
outside_of node input.StopNode can = tt
outside_of node (input.Fault place kind) can = tt
