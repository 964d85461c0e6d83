-- The lists of nodes of a takeover: they are those of histories, and its request can be asked.
use Rattle.std.proofs.Common.{◌≡◌, inl, inr, ℕ, zero, suc, ◌<◌, ◌≤◌, ◌^◌, arith, Bool, true, false, not, cond, List, [], ◌∷◌, length, map, refl, sym, ◌∙◌, ap, subst, Option, None, Some, ◌==◌, ◌&&◌, ◌||◌, filter, slice_set, bytes_eq}
use Rattle.std.specs.List.{list_all}
use Rattle.std.proofs.lemmas.Bool.Decides.{nat_tests}
use Rattle.std.proofs.lemmas.List.{length-map}
use Rattle.std.proofs.lemmas.Slice.Eq.{bytes_eq-Decides}
use Rattle.qm_history.specs.Common.{Input, Node, System, IsConsistent, is_among, node_at, IsListOfNodes, cluster, gone_in, nodes_where, up_with}
use Rattle.qm_kinds.specs.declared.request.Request.TheVariants as request
use Rattle.qm_acting.specs.Asking.{CanBeAsked}
use Rattle.qm_history.specs.declared.world.World.{World}
use Rattle.qm_history.specs.Takeover.{is_named, may_after, nodes_on}
use Rattle.qm_history.proofs.NodeLemmas.{ArePicked, all_picked, distinct_apart, filter_picked, picked_is_list, where_picked}
use Rattle.qm_chest.specs.declared.members.Members.{Members}
use Rattle.qm_chest.specs.Members.{AreMembersOf}
use Rattle.qm_chest.specs.Nodes.{are_called, nodes_among, nodes_listed}
use Rattle.qm_chest.specs.Taking.{gone_by, may_by, request_of, took_by, up_by}

-- ---- in the words of histories

pub may_is : (s : System) (on : Option (List (List ℕ))) → may_by s.nodes s.may on ≡ may_after s on
may_is s None = refl
may_is s (Some []) = refl
may_is s (Some (name ∷ names)) = refl

pub named_is : (s : System) (on : Option (List (List ℕ))) (node : ℕ) → is_among (may_by s.nodes s.may on) (node_at node s.nodes) ≡ is_named s on node
named_is s on node = ap (λ (l : List (List ℕ)). is_among l (node_at node s.nodes)) (may_is s on)

pub gone_is : (w : World) (s : System) (members : Members) → AreMembersOf w members → gone_by members.live.items members.held.items s.nodes ≡ gone_in w s
gone_is w s members of = λ i. gone_by (of.live i) (of.held i) s.nodes

pub up_is : (w : World) (s : System) (node : ℕ) (members : Members) → AreMembersOf w members → up_by members.live.items node s.nodes ≡ up_with w node s
up_is w s node members of = ap (λ (live : List Bool). up_by live node s.nodes) of.live

-- ---- nodes of the cluster, in its order

none_among : (b : Bool) (nodes : List Node) (live : List Bool) (test : Bool → Node → Bool) → ArePicked (cond b (map (λ (n : Node). n.name) nodes) (nodes_where test live nodes)) (map (λ (n : Node). n.name) nodes)
none_among true nodes live test = all_picked (map (λ (n : Node). n.name) nodes)
none_among false nodes live test = where_picked test live nodes

gone_picked : (live : List Bool) (held : List ℕ) (nodes : List Node) → ArePicked (gone_by live held nodes) (map (λ (n : Node). n.name) nodes)
gone_picked live held nodes = none_among (list_all (λ epoch. epoch == 0) held) nodes live (λ live n. n.up && not live)

up_picked : (live : List Bool) (node : ℕ) (nodes : List Node) → ArePicked (up_by live node nodes) (map (λ (n : Node). n.name) nodes)
up_picked live node nodes = where_picked (λ live n. live) (slice_set live node true) nodes

may_picked : (s : System) (on : Option (List (List ℕ))) → IsConsistent s → ArePicked (may_by s.nodes s.may on) (cluster s)
may_picked s None consistent = subst (λ (l : List (List ℕ)). ArePicked l (cluster s)) (sym consistent.may) (filter_picked (is_among s.may) (cluster s))
may_picked s (Some []) consistent = all_picked (cluster s)
may_picked s (Some (name ∷ names)) consistent = filter_picked (is_among (name ∷ names)) (cluster s)

list_of : (s : System) (names : List (List ℕ)) → IsConsistent s → ArePicked names (cluster s) → IsListOfNodes s names
list_of s names consistent picked = picked_is_list names (cluster s) (distinct_apart s.nodes consistent.nodes.distinct) picked

picked_few : (names all : List (List ℕ)) → ArePicked names all → length names ≤ length all
picked_few names [] picked = omega (arith, ap length picked)
picked_few names (y ∷ all) (ys, h, inl is) = let more = picked_few ys all h in omega (arith, more, ap length is)
picked_few names (y ∷ all) (ys, h, inr is) = let more = picked_few ys all h in omega (arith, more, ap length is)

-- ---- the request

module _ (s : System) (consistent : IsConsistent s) where
  few_of : (names : List (List ℕ)) → ArePicked names (cluster s) → length names < 2 ^ 16
  few_of names picked =
      let less = picked_few names (cluster s) picked in
      let limit = consistent.nodes.few in
      omega (arith, less, limit, length-map s.nodes (λ (n : Node). n.name))

  pub took_can_be_asked : (members : Members) (node : ℕ) (what : Input) (moment epoch : ℕ) → node < length s.nodes → s.last ≤ moment → CanBeAsked s moment node (request_of members s node what epoch)
  took_can_be_asked members node what moment epoch there later =
      let on : Option (List (List ℕ)) = nodes_on what in
      let gone = gone_picked members.live.items members.held.items s.nodes in
      let up = up_picked members.live.items node s.nodes in
      let may = may_picked s on consistent in
      record {
        node_there = there;
        not_earlier = later;
        names = list_of s (may_by s.nodes s.may on) consistent may;
        lists = (
          list_of s (gone_by members.live.items members.held.items s.nodes) consistent gone,
          list_of s (up_by members.live.items node s.nodes) consistent up,
          list_of s (may_by s.nodes s.may on) consistent may,
        );
        short = λ ok. (
          few_of (gone_by members.live.items members.held.items s.nodes) gone,
          few_of (up_by members.live.items node s.nodes) up,
          few_of (may_by s.nodes s.may on) may,
        );
      }

-- ---- whether a node may take over

or_yes : (b : Bool) → not (b || true) ≡ false
or_yes true = refl
or_yes false = refl

pub named_up : (o : Bool) (named : Bool) → named ≡ true → not (o || named) ≡ false
named_up o named is = ap (λ (b : Bool). not (o || b)) is ∙ or_yes o

pub named_none : (o : Bool) (named : Bool) → o ≡ true → not (o || named) ≡ false
named_none o named is = ap (λ (b : Bool). not (b || named)) is

pub unnamed_up : (o : Bool) (named : Bool) → o ≡ false → named ≡ false → not (o || named) ≡ true
unnamed_up o named none is = ap (λ (b : Bool). not (b || named)) none ∙ ap not is

-- ---- the list that a command gives

same_name : (name : List ℕ) → bytes_eq name name ≡ true
same_name name = (bytes_eq-Decides name name).1 refl

or_true : (b : Bool) → (b || true) ≡ true
or_true true = refl
or_true false = refl

pub in_cluster : (place : ℕ) (nodes : List Node) → place < length nodes → is_among (map (λ (n : Node). n.name) nodes) (node_at place nodes) ≡ true
in_cluster place [] within = absurd (omega (arith, within))
in_cluster zero (n ∷ nodes) within = ap (λ (b : Bool). b || is_among (map (λ (n : Node). n.name) nodes) n.name) (same_name n.name)
in_cluster (suc place) (n ∷ nodes) within =
    let more = in_cluster place nodes (omega (arith, within)) in
    ap (λ (b : Bool). bytes_eq (node_at place nodes) n.name || b) more ∙ or_true (bytes_eq (node_at place nodes) n.name)

-- what isn't listed isn't among those that are
none_listed : (names all : List (List ℕ)) (x : List ℕ) → is_among names x ≡ false → is_among (filter (is_among names) all) x ≡ false
none_listed names [] x none = refl
none_listed names (y ∷ all) x none = by_test (none_listed names all x none) (is_among names y) refl
  where
    differs : is_among names y ≡ true → (b : Bool) → bytes_eq x y ≡ b → bytes_eq x y ≡ false
    differs listed true is = let same : x ≡ y = (bytes_eq-Decides x y).0 is in let both : true ≡ false = sym listed ∙ ap (is_among names) (sym same) ∙ none in cc
    differs listed false is = is

    by_test : is_among (filter (is_among names) all) x ≡ false → (b : Bool) → is_among names y ≡ b → is_among (cond b (y ∷ filter (is_among names) all) (filter (is_among names) all)) x ≡ false
    by_test more false is = more
    by_test more true is = ap (λ (b : Bool). b || is_among (filter (is_among names) all) x) (differs is (bytes_eq x y) refl) ∙ more

or_false : (a b : Bool) → a ≡ false → (a || b) ≡ true → b ≡ true
or_false a b none some = sym (ap (λ (x : Bool). x || b) none) ∙ some

pub listed_in : (names all : List (List ℕ)) (x : List ℕ) → is_among all x ≡ true → is_among (filter (is_among names) all) x ≡ is_among names x
listed_in names [] x there = cc
listed_in names (y ∷ all) x there = by_tests (λ h. listed_in names all x h) (bytes_eq x y) refl (is_among names y) refl
  where
    by_tests : (is_among all x ≡ true → is_among (filter (is_among names) all) x ≡ is_among names x) → (s : Bool) → bytes_eq x y ≡ s → (b : Bool) → is_among names y ≡ b
        → is_among (cond b (y ∷ filter (is_among names) all) (filter (is_among names) all)) x ≡ is_among names x
    by_tests more true same true is =
        let one : x ≡ y = (bytes_eq-Decides x y).0 same in
        ap (λ (b : Bool). b || is_among (filter (is_among names) all) x) same ∙ sym (ap (is_among names) one ∙ is)
    by_tests more true same false is =
        let one : x ≡ y = (bytes_eq-Decides x y).0 same in
        let none : is_among names x ≡ false = ap (is_among names) one ∙ is in
        none_listed names all x none ∙ sym none
    by_tests more false other true is =
        ap (λ (b : Bool). b || is_among (filter (is_among names) all) x) other ∙ more (or_false (bytes_eq x y) (is_among all x) other there)
    by_tests more false other false is = more (or_false (bytes_eq x y) (is_among all x) other there)

and_both : (a b : Bool) → (a && b) ≡ true → (a ≡ true) × (b ≡ true)
and_both true b h = (refl, h)
and_both false b h = cc

and_false : (a : Bool) → (a && false) ≡ false
and_false true = refl
and_false false = refl

own_names : (nodes : List Node) → are_called nodes (map (λ (n : Node). n.name) nodes) ≡ true
own_names [] = refl
own_names (n ∷ nodes) = ap (λ (b : Bool). b && are_called nodes (map (λ (n : Node). n.name) nodes)) (same_name n.name) ∙ own_names nodes

pub some_listed : (nodes : List Node) (names : List (List ℕ)) → (names ≡ [] → ⊥) → nodes_listed nodes names ≡ nodes_among names nodes
some_listed nodes [] some = absurd (some refl)
some_listed nodes (name ∷ names) some = refl

some_length : (n : ℕ) → (suc n == 0) ≡ false
some_length n = grind (arith, nat_tests)

pub listed_all : (nodes : List Node) (names : List (List ℕ)) (node : ℕ) (b : Bool) → node < length nodes → b ≡ (length names == 0) → b ≡ true
    → b ≡ is_among (nodes_listed nodes names) (node_at node nodes)
listed_all nodes [] node b within is so = so ∙ sym (in_cluster node nodes within)
listed_all nodes (name ∷ names) node b within is so = let never : false ≡ true = sym (some_length (length names)) ∙ sym is ∙ so in cc

pub not_empty : (names : List (List ℕ)) (b : Bool) → b ≡ (length names == 0) → b ≡ false → names ≡ [] → ⊥
not_empty [] b is other empty = let both : true ≡ false = sym is ∙ other in cc
not_empty (name ∷ names) b is other empty = cc

pub called_apart : (nodes : List Node) (names : List (List ℕ)) → (length nodes ≡ length names → ⊥) → false ≡ are_called nodes names
called_apart [] [] differ = absurd (differ refl)
called_apart [] (name ∷ names) differ = refl
called_apart (n ∷ nodes) [] differ = refl
called_apart (n ∷ nodes) (name ∷ names) differ =
    let more : false ≡ are_called nodes names = called_apart nodes names (λ same. differ (ap suc same)) in
    sym (ap (λ (b : Bool). bytes_eq n.name name && b) (sym more) ∙ and_false (bytes_eq n.name name))

-- nodes that have these names
pub called_so : (nodes : List Node) (names : List (List ℕ)) → are_called nodes names ≡ true → map (λ (n : Node). n.name) nodes ≡ names
called_so [] [] h = refl
called_so [] (name ∷ names) h = cc
called_so (n ∷ nodes) [] h = cc
called_so (n ∷ nodes) (name ∷ names) h =
    let both = and_both (bytes_eq n.name name) (are_called nodes names) h in
    let one : n.name ≡ name = (bytes_eq-Decides n.name name).0 both.0 in
    let more : map (λ (n : Node). n.name) nodes ≡ names = called_so nodes names both.1 in
    λ i. one i ∷ more i

pub are_so : (nodes : List Node) (names : List (List ℕ)) → map (λ (n : Node). n.name) nodes ≡ names → are_called nodes names ≡ true
are_so nodes names is = subst (λ (l : List (List ℕ)). are_called nodes l ≡ true) is (own_names nodes)

-- ---- the request, in the words of histories

-- on nodes and a list that were read
pub request_read : (members : Members) (s : System) (node : ℕ) (what : Input) (epoch : ℕ) (nodes : List Node) (may : List (List ℕ)) → nodes ≡ s.nodes → may ≡ s.may
    → took_by members nodes may node what epoch ≡ request_of members s node what epoch
request_read members s node what epoch nodes may nodes_are may_are =
    λ i. took_by members (nodes_are i) (may_are i) node what epoch

pub request_is : (w : World) (s t : System) (node : ℕ) (what : Input) (epoch : ℕ) (members : Members) → AreMembersOf w members → t ≡ s
    → request_of members t node what epoch ≡ request.Took epoch (gone_in w s) (up_with w node s) (may_after s (nodes_on what))
request_is w s t node what epoch members of same =
    ap (λ (x : System). request_of members x node what epoch) same
    ∙ (λ i. request.Took epoch (gone_is w s members of i) (up_is w s node members of i) (may_is s (nodes_on what) i))

pub named_read : (s : System) (nodes : List Node) (may : List (List ℕ)) (on : Option (List (List ℕ))) (node : ℕ) → nodes ≡ s.nodes → may ≡ s.may
    → is_among (may_by nodes may on) (node_at node nodes) ≡ is_named s on node
named_read s nodes may on node nodes_are may_are = (λ i. is_among (may_by (nodes_are i) (may_are i) on) (node_at node (nodes_are i))) ∙ named_is s on node
