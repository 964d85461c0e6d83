-- What a test that a row alone passes, or none, finds, takes out and changes.
use Rattle.std.proofs.Common.{◌≡◌, ◌∙◌, ℕ, zero, suc, ◌+◌, ◌<◌, inl, inr, Bool, true, false, not, if◌then◌else◌, List, [], ◌∷◌, length, get_or, map, set, Some, None, refl, ap, arith, subst, Ordering, Less, Equal, Greater}
use Rattle.std.specs.List.{All, AllWithin, HoldsAt, find, filter, remove, slice_get}
use Rattle.std.specs.Cmp.{IsTotalOrder}
use Rattle.std.specs.Ordering.{is_eq, is_lt, ordering_reverse}
use Rattle.std.proofs.lemmas.List.Elements.{All-tail}
use Rattle.std.proofs.lemmas.Bool.{cases_lt}
use Rattle.qm_keyed.specs.Places.{StandsAt, BelongsAt}
pub use Rattle.qm_keyed.specs.Numbers.{lesser_is}

-- one row alone passes a test
pub record PassesAt {X : Type 0} (test : X → Bool) (xs : List X) (i : ℕ) : Type 0 where
  pub within : i < length xs
  pub before : AllWithin (λ x. test x ≡ false) xs 0 i
  pub here : HoldsAt (λ x. test x ≡ true) xs i
  pub behind : AllWithin (λ x. test x ≡ false) xs (i + 1) (length xs)

module _ {X K : Type 0} {R : K → K → Ordering} (key : X → K) (wanted : K) (test : X → Bool) (tests : (x : X) → test x ≡ is_eq (R (key x) wanted)) (xs : List X) (i : ℕ) where
  -- the row of a key is the one that has it
  pub passes : StandsAt R key wanted xs i → PassesAt test xs i
  passes stands = record {
    within = stands.within;
    before = λ k d low below. tests (get_or xs k d) ∙ ap is_eq (stands.before k d low below);
    here = λ d. tests (get_or xs i d) ∙ ap is_eq (stands.here d);
    behind = λ k d low below. tests (get_or xs k d) ∙ ap is_eq (stands.behind k d low below);
  }

  -- where one would belong none has it
  pub fails : BelongsAt R key wanted xs i → All (λ x. test x ≡ false) xs
  fails belongs k d within = elim (cases_lt k i) [
    | inl less ↦ tests (get_or xs k d) ∙ ap is_eq (belongs.before k d (omega arith) less)
    | inr more ↦ tests (get_or xs k d) ∙ ap is_eq (belongs.behind k d (omega (arith, more)) within)
  ]

module _ {X : Type 0} (test : X → Bool) where
  tail : (x : X) (xs : List X) (i : ℕ) → PassesAt test (x ∷ xs) (suc i) → PassesAt test xs i
  tail x xs i at = record {
    within = omega (arith, at.within);
    before = λ k d low below. at.before (suc k) d (omega arith) (omega (arith, below));
    here = λ d. at.here d;
    behind = λ k d low below. at.behind (suc k) d (omega (arith, low)) (omega (arith, below));
  }

  others : (x : X) (xs : List X) → PassesAt test (x ∷ xs) 0 → All (λ y. test y ≡ false) xs
  others x xs at k d within = at.behind (suc k) d (omega arith) (omega (arith, within))

  first : (x : X) (xs : List X) (i : ℕ) → PassesAt test (x ∷ xs) (suc i) → test x ≡ false
  first x xs i at = at.before 0 x (omega arith) (omega arith)

  pub find_none : (xs : List X) → All (λ x. test x ≡ false) xs → find test xs ≡ None
  find_none [] none = refl
  find_none (x ∷ xs) none =
      let other : test x ≡ false = none 0 x (omega arith) in
      rw other (find_none xs (All-tail (λ y. test y ≡ false) x xs none))

  pub find_at : (xs : List X) (i : ℕ) (d : X) → PassesAt test xs i → find test xs ≡ Some (get_or xs i d)
  find_at [] i d at = absurd (omega (arith, at.within))
  find_at (x ∷ xs) zero d at = let here : test x ≡ true = at.here d in rw here refl
  find_at (x ∷ xs) (suc i) d at = let other : test x ≡ false = first x xs i at in rw other (find_at xs i d (tail x xs i at))

  pub find_is : (xs : List X) (i : ℕ) → PassesAt test xs i → find test xs ≡ slice_get xs i
  find_is [] i at = absurd (omega (arith, at.within))
  find_is (x ∷ xs) zero at = let here : test x ≡ true = at.here x in rw here refl
  find_is (x ∷ xs) (suc i) at = let other : test x ≡ false = first x xs i at in rw other (find_is xs i (tail x xs i at))

  pub filter_none : (xs : List X) → All (λ x. test x ≡ false) xs → filter (λ x. not (test x)) xs ≡ xs
  filter_none [] none = refl
  filter_none (x ∷ xs) none =
      let other : test x ≡ false = none 0 x (omega arith) in
      rw other (ap (λ (ys : List X). x ∷ ys) (filter_none xs (All-tail (λ y. test y ≡ false) x xs none)))

  pub filter_at : (xs : List X) (i : ℕ) → PassesAt test xs i → filter (λ x. not (test x)) xs ≡ remove xs i
  filter_at [] i at = absurd (omega (arith, at.within))
  filter_at (x ∷ xs) zero at = let here : test x ≡ true = at.here x in rw here (filter_none xs (others x xs at))
  filter_at (x ∷ xs) (suc i) at =
      let other : test x ≡ false = first x xs i at in
      rw other (ap (λ (ys : List X). x ∷ ys) (filter_at xs i (tail x xs i at)))

  module _ (change : X → X) where
    pub map_none : (xs : List X) → All (λ x. test x ≡ false) xs → map (λ x. if test x then change x else x) xs ≡ xs
    map_none [] none = refl
    map_none (x ∷ xs) none =
        let other : test x ≡ false = none 0 x (omega arith) in
        rw other (ap (λ (ys : List X). x ∷ ys) (map_none xs (All-tail (λ y. test y ≡ false) x xs none)))

    pub map_at : (xs : List X) (i : ℕ) (d : X) → PassesAt test xs i → map (λ x. if test x then change x else x) xs ≡ set xs i (change (get_or xs i d))
    map_at [] i d at = absurd (omega (arith, at.within))
    map_at (x ∷ xs) zero d at = let here : test x ≡ true = at.here x in rw here (ap (λ (ys : List X). change x ∷ ys) (map_none xs (others x xs at)))
    map_at (x ∷ xs) (suc i) d at =
        let other : test x ≡ false = first x xs i at in
        rw other (ap (λ (ys : List X). x ∷ ys) (map_at xs i d (tail x xs i at)))

  -- the first row that passes, where those that pass stand behind the others
  pub find_from : (xs : List X) (i : ℕ) → AllWithin (λ x. test x ≡ false) xs 0 i → AllWithin (λ x. test x ≡ true) xs i (length xs) → find test xs ≡ slice_get xs i
  find_from [] i before behind = refl
  find_from (x ∷ xs) zero before behind = let here : test x ≡ true = behind 0 x (omega arith) (omega arith) in rw here refl
  find_from (x ∷ xs) (suc i) before behind =
      let other : test x ≡ false = before 0 x (omega arith) (omega arith) in
      rw other (find_from xs i
      (λ k d low below. before (suc k) d (omega arith) (omega (arith, below)))
      (λ k d low below. behind (suc k) d (omega (arith, low)) (omega (arith, below))))

module _ {X K : Type 0} {R : K → K → Ordering} (o : IsTotalOrder R) (key : X → K) (wanted : K) (test : X → Bool) (tests : (x : X) → test x ≡ is_lt (R wanted (key x))) (xs : List X) (i : ℕ) where
  by : (x : X) (answer : Ordering) → R (key x) wanted ≡ answer → test x ≡ is_lt (ordering_reverse answer)
  by x answer is = tests x ∙ ap is_lt (o.antisymm wanted (key x) ∙ ap ordering_reverse is)

  -- the first row of a greater key stands behind the row of the key,
  pub next_behind : StandsAt R key wanted xs i → find test xs ≡ slice_get xs (i + 1)
  next_behind stands = find_from test xs (i + 1) fails_up_to (λ k d low within. by (get_or xs k d) Greater (stands.behind k d low within))
    where
      fails_up_to : AllWithin (λ x. test x ≡ false) xs 0 (i + 1)
      fails_up_to k d low below = elim (cases_lt k i) [
        | inl less ↦ by (get_or xs k d) Less (stands.before k d low less)
        | inr more ↦
            let same : i ≡ k = omega arith in
            by (get_or xs k d) Equal (subst (λ (n : ℕ). R (key (get_or xs n d)) wanted ≡ Equal) same (stands.here d))
      ]

  -- or where one would belong
  pub next_from : BelongsAt R key wanted xs i → find test xs ≡ slice_get xs i
  next_from belongs =
      find_from test xs i
      (λ k d low below. by (get_or xs k d) Less (belongs.before k d low below))
      (λ k d low within. by (get_or xs k d) Greater (belongs.behind k d low within))
