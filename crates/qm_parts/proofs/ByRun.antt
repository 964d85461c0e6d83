-- The entries that have runs on a node stand in order of their runs as the table of runs has them.
use Rattle.std.proofs.Common.{◌≡◌, ◌∙◌, ℕ, ◌+◌, ◌<◌, ◌≤◌, ◌==◌, inl, inr, Bool, true, false, cond, ◌&&◌, nat_lt, List, [], ◌∷◌, get_or, map, count_by, filter, fold, Option, None, Some, unwrap_or, refl, sym, ap, arith, nat_cmp, bytes_eq, Less}
use Rattle.std.specs.List.{All, cons_option, filter_map}
use Rattle.std.specs.Option.{option_map_or}
use Rattle.std.proofs.lemmas.Bool.{cases_lt}
use Rattle.std.proofs.lemmas.Bool.Decides.{nat_tests}
use Rattle.std.proofs.lemmas.List.Elements.{All-cons, All-nil, All-head, All-tail, All-filter}
use Rattle.std.proofs.lemmas.List.Kept.{AllPairs-filter}
use Rattle.qm_model.specs.Common.{Entry, EntryState, Pending, Holding, Timed, Running, Aborting, Retained, Run, IsInOrder, run_number, by_run, entry_numbered, inserted, run_of, runs_on, is_run_on}
use Rattle.qm_keyed.proofs.Pairs.{pairs_nil, pairs_cons, pairs_first}
use Rattle.qm_model.proofs.InsertLemmas.{all_inserted}
use Rattle.qm_parts.specs.ByRun.{entry_on}
use Rattle.qm_parts.specs.Mirror.{Mirrors, run_in_state}
use Rattle.qm_parts.proofs.Counts.{one_if, count_cons, count_none, count_filter, count_inserted, all_fail, both_le_second}
use Rattle.qm_parts.proofs.Mirrored.{count_as, of_its_run}
use Rattle.qm_parts.proofs.Ordered.{itself, later, rest_of, once, each_found}

less : (m n : ℕ) → m < n → nat_cmp m n ≡ Less
less m n below = grind (arith, nat_tests)

below_is : (m n : ℕ) → nat_lt m n ≡ true → m < n
below_is m n is = grind (arith, nat_tests)

above_is : (m n : ℕ) → nat_lt m n ≡ false → (n == m) ≡ false → n < m
above_is m n is other = grind (arith, nat_tests)

another : (k m : ℕ) → k < m → (m == k) ≡ false
another k m below = grind (arith, nat_tests)

same_is : (m n : ℕ) → (m == n) ≡ true → m ≡ n
same_is m n is = grind (arith, nat_tests)

-- ---- rows that are put in their places by number, one by one

module _ {X : Type 0} (key : X → ℕ) where
  abbrev before : X → X → Bool
  before x y = nat_lt (key x) (key y)

  abbrev Below : X → X → Type 0
  Below x y = nat_cmp (key x) (key y) ≡ Less

  abbrev Ordered : List X → Type 0
  Ordered xs = IsInOrder nat_cmp key xs

  abbrev sorted : List X → List X → List X
  sorted done xs = fold (λ rows x. inserted before x rows) done xs

  all_behind : (x y : X) (ys : List X) → key x < key y → Ordered (y ∷ ys) → All (Below x) (y ∷ ys)
  all_behind x y ys first order =
      All-cons (Below x) y ys (less (key x) (key y) first) (λ k d within. less (key x) (key (get_or ys k d)) (omega (arith, first, later key y ys order k d within)))

  put_at : (x y : X) (ys : List X) (b : Bool) → nat_lt (key x) (key y) ≡ b → (key y == key x) ≡ false → Ordered (y ∷ ys) → Ordered (inserted before x ys)
      → Ordered (cond b (x ∷ y ∷ ys) (y ∷ inserted before x ys))
  put_at x y ys true is other order rest = pairs_cons Below x (y ∷ ys) (all_behind x y ys (below_is (key x) (key y) is) order) order
  put_at x y ys false is other order rest =
      pairs_cons Below y (inserted before x ys) (all_inserted before x (Below y) ys (less (key y) (key x) (above_is (key x) (key y) is other)) (pairs_first Below y ys order)) rest

  -- one row more, whose number is new
  put_in_order : (x : X) (ys : List X) → All (λ y. (key y == key x) ≡ false) ys → Ordered ys → Ordered (inserted before x ys)
  put_in_order x [] others order = pairs_cons Below x [] (All-nil (Below x)) (pairs_nil Below)
  put_in_order x (y ∷ ys) others order =
      put_at x y ys (nat_lt (key x) (key y)) refl (All-head (λ z. (key z == key x) ≡ false) y ys others) order
      (put_in_order x ys (All-tail (λ z. (key z == key x) ≡ false) y ys others) (rest_of key y ys order))

  sorted_count : (p : X → Bool) (xs done : List X) → count_by p (sorted done xs) ≡ count_by p done + count_by p xs
  sorted_count p [] done = omega arith
  sorted_count p (x ∷ xs) done = omega (arith, sorted_count p xs (inserted before x done), count_inserted p before x done, count_cons p x xs)

  pub sorted_all : (P : X → Type 0) (xs done : List X) → All P xs → All P done → All P (sorted done xs)
  sorted_all P [] done all so_far = so_far
  sorted_all P (x ∷ xs) done all so_far = sorted_all P xs (inserted before x done) (All-tail P x xs all) (all_inserted before x P done (All-head P x xs all) so_far)

  -- no number stands twice, in both
  abbrev AreOnce : List X → List X → Type 0
  AreOnce done xs = (n : ℕ) → count_by (λ y. key y == n) done + count_by (λ y. key y == n) xs ≤ 1

  sorted_in_order : (xs done : List X) → Ordered done → AreOnce done xs → Ordered (sorted done xs)
  sorted_in_order [] done order once = order
  sorted_in_order (x ∷ xs) done order once =
      sorted_in_order xs (inserted before x done) (put_in_order x done (all_fail (λ y. key y == key x) done none) order)
      (λ n. omega (arith, once n, count_cons (λ y. key y == n) x xs, count_inserted (λ y. key y == n) before x done))
    where
      none : count_by (λ y. key y == key x) done ≡ 0
      none = omega (arith, once (key x), count_cons (λ y. key y == key x) x xs, ap one_if (itself (key x)))

-- ---- what stands in order of one number has its other numbers in one order alone

module _ {Z : Type 0} (key val : Z → ℕ) where
  abbrev hits : ℕ → ℕ → List Z → ℕ
  hits k v zs = count_by (λ z. key z == k && val z == v) zs

  fails : (k v : ℕ) (z : Z) → k < key z → (key z == k && val z == v) ≡ false
  fails k v z below = ap (λ (b : Bool). b && val z == v) (another k (key z) below)

  none_in : (k v : ℕ) (zs : List Z) → All (λ z. k < key z) zs → hits k v zs ≡ 0
  none_in k v zs above = count_none (λ z. key z == k && val z == v) zs (λ i d within. fails k v (get_or zs i d) (above i d within))

  none_below : (k v : ℕ) (z : Z) (zs : List Z) → IsInOrder nat_cmp key (z ∷ zs) → k < key z → hits k v (z ∷ zs) ≡ 0
  none_below k v z zs order below =
      none_in k v (z ∷ zs) (All-cons (λ x. k < key x) z zs below (λ i d within. omega (arith, below, later key z zs order i d within)))

  hits_itself : (z : Z) (zs : List Z) → 1 ≤ hits (key z) (val z) (z ∷ zs)
  hits_itself z zs =
      let both : (key z == key z && val z == val z) ≡ true = ap (λ (b : Bool). b && val z == val z) (itself (key z)) ∙ itself (val z) in
      omega (arith, count_cons (λ x. key x == key z && val x == val z) z zs, ap one_if both)

  value_at : (k v : ℕ) (z : Z) (b : Bool) → val z == v ≡ b → 1 ≤ one_if (key z == k && b) → val z ≡ v
  value_at k v z true is hit = same_is (val z) v is
  value_at k v z false is hit = absurd (never (key z == k) hit)
    where
      never : (b : Bool) → 1 ≤ one_if (b && false) → ⊥
      never true hit = omega (arith, hit)
      never false hit = omega (arith, hit)

  hit_is_first : (k v : ℕ) (z : Z) (zs : List Z) → IsInOrder nat_cmp key (z ∷ zs) → key z ≡ k → 1 ≤ hits k v (z ∷ zs) → val z ≡ v
  hit_is_first k v z zs order is hit =
      value_at k v z (val z == v) refl
      (omega (arith, hit, count_cons (λ x. key x == k && val x == v) z zs, none_in k v zs (λ i d within. omega (arith, is, later key z zs order i d within))))

module _ {X Y : Type 0} (key val : X → ℕ) (number value : Y → ℕ) where
  abbrev SameHits : List X → List Y → Type 0
  SameHits xs ys = (k v : ℕ) → hits key val k v xs ≡ hits number value k v ys

  record SameHeads (x : X) (y : Y) : Type 0 where
    keys : key x ≡ number y
    vals : val x ≡ value y

  same_heads : (x : X) (xs : List X) (y : Y) (ys : List Y) → IsInOrder nat_cmp key (x ∷ xs) → IsInOrder nat_cmp number (y ∷ ys) → SameHits (x ∷ xs) (y ∷ ys) → SameHeads x y
  same_heads x xs y ys order in_order same = elim (cases_lt (key x) (number y)) [
    | inl less ↦ absurd (omega (arith, same (key x) (val x), hits_itself key val x xs, none_below number value (key x) (val x) y ys in_order less))
    | inr ge ↦ elim (cases_lt (number y) (key x)) [
      | inl more ↦ absurd (omega (arith, same (number y) (value y), hits_itself number value y ys, none_below key val (number y) (value y) x xs order more))
      | inr le ↦ record {
        keys = omega (arith, ge, le);
        vals = sym (hit_is_first number value (key x) (val x) y ys in_order (omega (arith, ge, le)) (omega (arith, same (key x) (val x), hits_itself key val x xs)));
      }
    ]
  ]

  same_behind : (x : X) (xs : List X) (y : Y) (ys : List Y) → SameHeads x y → SameHits (x ∷ xs) (y ∷ ys) → SameHits xs ys
  same_behind x xs y ys heads same k v =
      let first : one_if (key x == k && val x == v) ≡ one_if (number y == k && value y == v) =
      ap (λ (m : ℕ). one_if (m == k && val x == v)) heads.keys ∙ ap (λ (m : ℕ). one_if (number y == k && m == v)) heads.vals in
      omega (arith, same k v, count_cons (λ z. key z == k && val z == v) x xs, count_cons (λ z. number z == k && value z == v) y ys, first)

  same_values : (xs : List X) (ys : List Y) → IsInOrder nat_cmp key xs → IsInOrder nat_cmp number ys → SameHits xs ys → map val xs ≡ map value ys
  same_values [] [] order in_order same = refl
  same_values [] (y ∷ ys) order in_order same = absurd (omega (arith, same (number y) (value y), hits_itself number value y ys))
  same_values (x ∷ xs) [] order in_order same = absurd (omega (arith, same (key x) (val x), hits_itself key val x xs))
  same_values (x ∷ xs) (y ∷ ys) order in_order same =
      let heads = same_heads x xs y ys order in_order same in
      ap (λ (n : ℕ). n ∷ map val xs) heads.vals
      ∙ ap (λ (ns : List ℕ). value y ∷ ns) (same_values xs ys (rest_of key x xs order) (rest_of number y ys in_order) (same_behind x xs y ys heads same))

-- ---- the entries of the runs on a node

module _ (runs : List Run) (es : List Entry) (mirror : Mirrors runs es) (runs_in_order : IsInOrder nat_cmp (λ r. r.run) runs) (in_order : IsInOrder nat_cmp (λ e. e.number) es) (node : List ℕ) where
  abbrev here : Run → Bool
  here r = bytes_eq r.node node

  abbrev on_node : List Entry
  on_node = filter (is_run_on node) es

  -- what is asked of the number of a run, and of its entry's
  its_numbers_at : (test : ℕ → ℕ → Bool) (n : ℕ) (state : EntryState)
      → option_map_or (λ (r : Run). here r && test r.run r.entry) (run_in_state n state) false ≡ (option_map_or (λ name. bytes_eq name node) (runs_on state) false && test (unwrap_or (run_of state) 0) n)
  its_numbers_at test n Pending = refl
  its_numbers_at test n Holding = refl
  its_numbers_at test n (Timed at) = refl
  its_numbers_at test n (Running queue on run) = refl
  its_numbers_at test n (Aborting queue on run fate) = refl
  its_numbers_at test n (Retained status until) = refl

  its_numbers : (test : ℕ → ℕ → Bool) → All (λ e. of_its_run (λ r. here r && test r.run r.entry) e ≡ (is_run_on node e && test (run_number e) e.number)) es
  its_numbers test k d within = its_numbers_at test (get_or es k d).number (get_or es k d).state

  as_many : (test : ℕ → ℕ → Bool) → count_by (λ e. test (run_number e) e.number) on_node ≡ count_by (λ r. here r && test r.run r.entry) runs
  as_many test =
      count_filter (λ e. test (run_number e) e.number) (is_run_on node) es
      ∙ sym (count_as runs es mirror (λ r. here r && test r.run r.entry) (λ e. is_run_on node e && test (run_number e) e.number) (its_numbers test))

  runs_once : AreOnce run_number [] on_node
  runs_once n = omega (arith, as_many (λ r e. r == n), both_le_second here (λ (r : Run). r.run == n) runs, once (λ (r : Run). r.run) n runs runs_in_order)

  sorted_runs : IsInOrder nat_cmp run_number (by_run on_node)
  sorted_runs = sorted_in_order run_number on_node [] (pairs_nil (λ (a b : Entry). nat_cmp (run_number a) (run_number b) ≡ Less)) runs_once

  same_hits : SameHits run_number (λ (e : Entry). e.number) (λ (r : Run). r.run) (λ (r : Run). r.entry) (by_run on_node) (filter here runs)
  same_hits k v = omega (
    arith,
    sorted_count run_number (λ (e : Entry). run_number e == k && e.number == v) on_node [],
    as_many (λ r e. r == k && e == v),
    count_filter (λ (r : Run). r.run == k && r.entry == v) here runs,
  )

  same_numbers : map (λ (e : Entry). e.number) (by_run on_node) ≡ map (λ (r : Run). r.entry) (filter here runs)
  same_numbers =
      same_values run_number (λ (e : Entry). e.number) (λ (r : Run). r.run) (λ (r : Run). r.entry) (by_run on_node) (filter here runs)
      sorted_runs (AllPairs-filter (λ (a b : Run). nat_cmp a.run b.run ≡ Less) here runs runs_in_order) same_hits

  abbrev found : List ℕ → List Entry
  found numbers = filter_map (λ n. entry_numbered n es) numbers

  all_found : (xs : List Entry) → All (λ e. entry_numbered e.number es ≡ Some e) xs → found (map (λ e. e.number) xs) ≡ xs
  all_found [] each = refl
  all_found (x ∷ xs) each =
      ap (λ (o : Option Entry). cons_option o (found (map (λ e. e.number) xs))) (All-head (λ e. entry_numbered e.number es ≡ Some e) x xs each)
      ∙ ap (λ (ys : List Entry). x ∷ ys) (all_found xs (All-tail (λ e. entry_numbered e.number es ≡ Some e) x xs each))

  through_at : (r : Run) (rs : List Run) (b : Bool) → filter_map (entry_on node es) rs ≡ found (map (λ x. x.entry) (filter here rs))
      → cons_option (cond b (entry_numbered r.entry es) None) (filter_map (entry_on node es) rs) ≡ found (map (λ x. x.entry) (cond b (r ∷ filter here rs) (filter here rs)))
  through_at r rs true rest = ap (λ (ys : List Entry). cons_option (entry_numbered r.entry es) ys) rest
  through_at r rs false rest = rest

  through : (rs : List Run) → filter_map (entry_on node es) rs ≡ found (map (λ x. x.entry) (filter here rs))
  through [] = refl
  through (r ∷ rs) = through_at r rs (here r) (through rs)

  pub entries_by_run : filter_map (entry_on node es) runs ≡ by_run on_node
  entries_by_run =
      through runs
      ∙ ap found (sym same_numbers)
      ∙ all_found (by_run on_node)
      (sorted_all run_number (λ e. entry_numbered e.number es ≡ Some e) on_node []
      (All-filter (is_run_on node) (λ e. entry_numbered e.number es ≡ Some e) es (each_found (λ (e : Entry). e.number) es in_order))
      (All-nil (λ e. entry_numbered e.number es ≡ Some e)))
