-- Nodes that a site can have.
use Rattle.std.proofs.Common.{◌≡◌, ◌≢◌, ◌<◌, ◌≤◌, ℕ, suc, Bool, true, false, not, ◌&&◌, List, [], ◌∷◌, length, get_or, refl, arith, nat_lt, nat_le, bytes_eq, leb-true}
use Rattle.std.specs.List.{AllByRecursion, list_any, list_all}
use Rattle.std.proofs.lemmas.Bool.Decides.{nat_tests}
use Rattle.std.proofs.lemmas.List.Elements.{All-from_recursion, recursion_from_All}
use Rattle.std.proofs.lemmas.List.Folds.{list_any_none, list_any_at}
use Rattle.std.proofs.lemmas.List.Kept.{AllPairs-cons}
use Rattle.std.proofs.lemmas.Slice.Eq.{bytes_eq-Decides}
use Rattle.qm_history.specs.Common.{NODES_LIMIT, NODE_NAME_BYTES, Node}
use Rattle.qm_model.specs.Consistent.{AreNodes, AreDistinct}
use Rattle.qm_model.proofs.SettlingLemmas.{and_left, and_right}
use Rattle.qm_restore.specs.Site.{are_distinct, are_nodes}

is_not : (b : Bool) → not b ≡ true → b ≡ false
is_not true h = absurd cc
is_not false h = refl

not_is : (b : Bool) → b ≡ false → not b ≡ true
not_is true h = absurd cc
not_is false h = refl

both : (a b : Bool) → a ≡ true → b ≡ true → (a && b) ≡ true
both true true ha hb = refl
both true false ha hb = absurd cc
both false b ha hb = absurd cc

clash : (b : Bool) → b ≡ true → b ≡ false → ⊥
clash b holds fails = cc

fails_unless : (b : Bool) → (b ≡ true → ⊥) → b ≡ false
fails_unless true not_true = absurd (not_true refl)
fails_unless false not_true = refl

le_test : (a b : ℕ) → a ≤ b → nat_le a b ≡ true
le_test a b h = grind (arith, nat_tests)

lt_test : (a b : ℕ) → a < b → nat_lt a b ≡ true
lt_test a b h = grind (arith, nat_tests)

lt_holds : (a b : ℕ) → nat_lt a b ≡ true → a < b
lt_holds a b h = grind (arith, nat_tests)

distinct_from : (nodes : List Node) → are_distinct nodes ≡ true → AreDistinct (λ (n : Node). n.name) nodes
distinct_from [] h = λ i j d below within. absurd (omega arith)
distinct_from (node ∷ nodes) h =
    let none = is_not (list_any (λ (other : Node). bytes_eq node.name other.name) nodes) (and_left _ (are_distinct nodes) h) in
    AllPairs-cons (λ (a b : Node). a.name ≢ b.name) node nodes
    (λ k d within same. clash (list_any (λ (other : Node). bytes_eq node.name other.name) nodes)
    (list_any_at (λ (other : Node). bytes_eq node.name other.name) nodes k d within ((bytes_eq-Decides node.name (get_or nodes k d).name).1 same)) none)
    (distinct_from nodes (and_right (not (list_any (λ (other : Node). bytes_eq node.name other.name) nodes)) (are_distinct nodes) h))

distinct_test : (nodes : List Node) → AreDistinct (λ (n : Node). n.name) nodes → are_distinct nodes ≡ true
distinct_test [] h = refl
distinct_test (node ∷ nodes) h =
    both (not (list_any (λ (other : Node). bytes_eq node.name other.name) nodes)) (are_distinct nodes)
    (not_is _ (list_any_none (λ (other : Node). bytes_eq node.name other.name) nodes
    (λ k d within. fails_unless (bytes_eq node.name (get_or nodes k d).name)
    (λ same. h 0 (suc k) d (omega arith) (omega arith) ((bytes_eq-Decides node.name (get_or nodes k d).name).0 same)))))
    (distinct_test nodes (λ i j d below within. h (suc i) (suc j) d (omega arith) (omega arith)))

short_each : (nodes : List Node) → list_all (λ (n : Node). nat_le (length n.name) NODE_NAME_BYTES) nodes ≡ true → AllByRecursion (λ (n : Node). length n.name ≤ NODE_NAME_BYTES) nodes
short_each [] h = tt
short_each (node ∷ nodes) h = (
  leb-true (length node.name) NODE_NAME_BYTES (and_left (nat_le (length node.name) NODE_NAME_BYTES) (list_all (λ (n : Node). nat_le (length n.name) NODE_NAME_BYTES) nodes) h),
  short_each nodes (and_right (nat_le (length node.name) NODE_NAME_BYTES) (list_all (λ (n : Node). nat_le (length n.name) NODE_NAME_BYTES) nodes) h),
)

short_test : (nodes : List Node) → AllByRecursion (λ (n : Node). length n.name ≤ NODE_NAME_BYTES) nodes → list_all (λ (n : Node). nat_le (length n.name) NODE_NAME_BYTES) nodes ≡ true
short_test [] h = refl
short_test (node ∷ nodes) h = both (nat_le (length node.name) NODE_NAME_BYTES) (list_all (λ (n : Node). nat_le (length n.name) NODE_NAME_BYTES) nodes) (le_test _ _ h.0) (short_test nodes h.1)

abbrev some_test : List Node → Bool
some_test nodes = nat_lt 0 (length nodes)

abbrev few_test : List Node → Bool
few_test nodes = nat_le (length nodes) NODES_LIMIT

abbrev short_all : List Node → Bool
short_all nodes = list_all (λ (n : Node). nat_le (length n.name) NODE_NAME_BYTES) nodes

-- nodes that pass the test are nodes of a site
pub proper_nodes : (nodes : List Node) → are_nodes nodes ≡ true → AreNodes nodes
proper_nodes nodes h =
    let three = and_left (some_test nodes && few_test nodes && short_all nodes) (are_distinct nodes) h in
    let two = and_left (some_test nodes && few_test nodes) (short_all nodes) three in
    record {
      some = lt_holds 0 (length nodes) (and_left (some_test nodes) (few_test nodes) two);
      few = leb-true (length nodes) NODES_LIMIT (and_right (some_test nodes) (few_test nodes) two);
      short = All-from_recursion (λ (n : Node). length n.name ≤ NODE_NAME_BYTES) nodes (short_each nodes (and_right (some_test nodes && few_test nodes) (short_all nodes) three));
      distinct = distinct_from nodes (and_right (some_test nodes && few_test nodes && short_all nodes) (are_distinct nodes) h);
    }

-- and those of a site pass it
pub nodes_pass : (nodes : List Node) → AreNodes nodes → are_nodes nodes ≡ true
nodes_pass nodes h =
    both (some_test nodes && few_test nodes && short_all nodes) (are_distinct nodes)
    (both (some_test nodes && few_test nodes) (short_all nodes)
    (both (some_test nodes) (few_test nodes) (lt_test 0 (length nodes) h.some) (le_test (length nodes) NODES_LIMIT h.few))
    (short_test nodes (recursion_from_All (λ (n : Node). length n.name ≤ NODE_NAME_BYTES) nodes h.short)))
    (distinct_test nodes h.distinct)

pub not_nodes : (nodes : List Node) → are_nodes nodes ≡ false → AreNodes nodes → ⊥
not_nodes nodes fails proper = clash (are_nodes nodes) (nodes_pass nodes proper) fails
