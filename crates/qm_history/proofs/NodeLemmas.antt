-- Lists of a cluster's nodes, each once and in its order.
use Rattle.std.proofs.Common.{◌≡◌, ◌≢◌, ℕ, zero, suc, ◌<◌, ◌⊎◌, inl, inr, Bool, true, false, cond, ◌||◌, List, [], ◌∷◌, length, map, refl, sym, ◌∙◌, ap, subst, arith, filter, All, bytes_eq}
use Rattle.std.specs.List.{AllByRecursion}
use Rattle.std.proofs.lemmas.Slice.Eq.{bytes_eq-Decides}
use Rattle.qm_history.specs.Common.{Node, is_among, node_at, nodes_where}
use Rattle.qm_model.specs.Consistent.{AreDistinct}

abbrev pub names : List Node → List (List ℕ)
names nodes = map (λ (n : Node). n.name) nodes

or_false : (a b : Bool) → (a || b) ≡ false → (a ≡ false) × (b ≡ false)
or_false true b h = cc
or_false false b h = (refl, h)

same_bytes : (x : List ℕ) → bytes_eq x x ≡ true
same_bytes x = (bytes_eq-Decides x x).1 refl

differs : (x y : List ℕ) → (x ≢ y) → bytes_eq x y ≡ false
differs x y apart = differs_at (bytes_eq x y) refl
  where
    differs_at : (b : Bool) → bytes_eq x y ≡ b → bytes_eq x y ≡ false
    differs_at true is = absurd (apart ((bytes_eq-Decides x y).0 is))
    differs_at false is = is

turned : (x y : List ℕ) → bytes_eq x y ≡ false → bytes_eq y x ≡ false
turned x y isnt = differs y x (λ same. let yes : bytes_eq x y ≡ true = (bytes_eq-Decides x y).1 (sym same) in cc)

-- ---- names that are apart

abbrev pub AreApart : List (List ℕ) → Type 0
AreApart [] = Unit {0}
AreApart (x ∷ xs) = (is_among xs x ≡ false) × AreApart xs

not_among : (x : List ℕ) (nodes : List Node) → All (λ n. x ≢ n.name) nodes → is_among (names nodes) x ≡ false
not_among x [] h = refl
not_among x (n ∷ nodes) h =
    ap (λ b. b || is_among (names nodes) x) (differs x n.name (h 0 n (omega arith))) ∙ not_among x nodes (λ k d within. h (suc k) d (omega (arith, within)))

pub distinct_apart : (nodes : List Node) → AreDistinct (λ n. n.name) nodes → AreApart (names nodes)
distinct_apart [] h = tt
distinct_apart (n ∷ nodes) h = (
  not_among n.name nodes (λ k d within. h 0 (suc k) d (omega arith) (omega (arith, within))),
  distinct_apart nodes (λ i j d below within. h (suc i) (suc j) d (omega (arith, below)) (omega (arith, within))),
)

-- ---- some of a list, in its order

abbrev pub ArePicked : List (List ℕ) → List (List ℕ) → Type 0
ArePicked xs [] = xs ≡ []
ArePicked xs (y ∷ all) = (ys : List (List ℕ)) × ArePicked ys all × ((xs ≡ y ∷ ys) ⊎ (xs ≡ ys))

none_picked : (all : List (List ℕ)) → ArePicked [] all
none_picked [] = refl
none_picked (y ∷ all) = ([], none_picked all, inr refl)

pub all_picked : (all : List (List ℕ)) → ArePicked all all
all_picked [] = refl
all_picked (y ∷ all) = (all, all_picked all, inl refl)

with_test : (b : Bool) (y : List ℕ) (ys all : List (List ℕ)) → ArePicked ys all → ArePicked (cond b (y ∷ ys) ys) (y ∷ all)
with_test true y ys all h = (ys, h, inl refl)
with_test false y ys all h = (ys, h, inr refl)

pub filter_picked : (p : List ℕ → Bool) (all : List (List ℕ)) → ArePicked (filter p all) all
filter_picked p [] = refl
filter_picked p (y ∷ all) = with_test (p y) y (filter p all) all (filter_picked p all)

pub where_picked : (test : Bool → Node → Bool) (live : List Bool) (nodes : List Node) → ArePicked (nodes_where test live nodes) (names nodes)
where_picked test [] [] = refl
where_picked test (l ∷ live) [] = refl
where_picked test [] (n ∷ nodes) = with_test (test false n) n.name (nodes_where test [] nodes) (names nodes) (where_picked test [] nodes)
where_picked test (l ∷ live) (n ∷ nodes) = with_test (test l n) n.name (nodes_where test live nodes) (names nodes) (where_picked test live nodes)

pub one_picked : (place : ℕ) (nodes : List Node) → place < length nodes → ArePicked (node_at place nodes ∷ []) (names nodes)
one_picked place [] within = absurd (omega (arith, within))
one_picked zero (n ∷ nodes) within = ([], none_picked (names nodes), inl refl)
one_picked (suc place) (n ∷ nodes) within = (node_at place nodes ∷ [], one_picked place nodes (omega (arith, within)), inr refl)

-- ---- what is picked is what a filter by it leaves

filter_alike : (p q : List ℕ → Bool) (xs : List (List ℕ)) → AllByRecursion (λ x. p x ≡ q x) xs → filter p xs ≡ filter q xs
filter_alike p q [] h = refl
filter_alike p q (x ∷ xs) h = ap (λ b. cond b (x ∷ filter p xs) (filter p xs)) h.0 ∙ ap (λ rest. cond (q x) (x ∷ rest) rest) (filter_alike p q xs h.1)

absent : (x : List ℕ) (xs all : List (List ℕ)) → ArePicked xs all → is_among all x ≡ false → is_among xs x ≡ false
absent x xs [] h isnt = ap (λ l. is_among l x) h
absent x xs (y ∷ all) (ys, h, inl is) isnt =
    let both = or_false (bytes_eq x y) (is_among all x) isnt in
    ap (λ l. is_among l x) is ∙ ap (λ b. b || is_among ys x) both.0 ∙ absent x ys all h both.1
absent x xs (y ∷ all) (ys, h, inr is) isnt =
    let both = or_false (bytes_eq x y) (is_among all x) isnt in ap (λ l. is_among l x) is ∙ absent x ys all h both.1

one_more_alike : (y : List ℕ) (ys all : List (List ℕ)) → is_among all y ≡ false → AllByRecursion (λ x. is_among (y ∷ ys) x ≡ is_among ys x) all
one_more_alike y ys [] isnt = tt
one_more_alike y ys (z ∷ all) isnt =
    let both = or_false (bytes_eq y z) (is_among all y) isnt in
    (ap (λ b. b || is_among ys z) (turned y z both.0), one_more_alike y ys all both.1)

first_stays : (y : List ℕ) (ys all : List (List ℕ)) → filter (is_among (y ∷ ys)) (y ∷ all) ≡ y ∷ filter (is_among (y ∷ ys)) all
first_stays y ys all =
    ap (λ b. cond (b || is_among ys y) (y ∷ filter (is_among (y ∷ ys)) all) (filter (is_among (y ∷ ys)) all)) (same_bytes y)

pub picked_is_list : (xs all : List (List ℕ)) → AreApart all → ArePicked xs all → xs ≡ filter (is_among xs) all
picked_is_list xs [] apart h = h
picked_is_list xs (y ∷ all) apart (ys, h, inl is) =
    subst (λ l. l ≡ filter (is_among l) (y ∷ all)) (sym is)
    (ap (λ l. y ∷ l) (picked_is_list ys all apart.1 h ∙ sym (filter_alike (is_among (y ∷ ys)) (is_among ys) all (one_more_alike y ys all apart.0))) ∙ sym (first_stays y ys all))
picked_is_list xs (y ∷ all) apart (ys, h, inr is) =
    subst (λ l. l ≡ filter (is_among l) (y ∷ all)) (sym is)
    (picked_is_list ys all apart.1 h ∙ sym (ap (λ b. cond b (y ∷ filter (is_among ys) all) (filter (is_among ys) all)) (absent y ys all h apart.0)))
