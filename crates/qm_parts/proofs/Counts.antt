-- How many elements of a list pass a test, and which one is found.
use Rattle.std.proofs.Common.{◌≡◌, ◌∙◌, ℕ, ◌+◌, ◌≤◌, Bool, true, false, cond, ◌&&◌, ◌||◌, nat_lt, List, [], ◌∷◌, ◌++◌, count_by, filter, find, map, Option, None, Some, is_some, refl, sym, ap, arith}
use Rattle.std.specs.List.{All, list_any}
use Rattle.std.proofs.lemmas.List.Elements.{All-head, All-tail, All-cons, All-nil}
use Rattle.std.proofs.lemmas.List.Sums.{sum_by-cons, sum_by-append}
use Rattle.std.proofs.lemmas.Bool.Decides.{nat_tests}
use Rattle.qm_model.specs.Inserting.{inserted}

abbrev pub one_if : Bool → ℕ
one_if b = cond b 1 0

module _ {X : Type 0} where
  pub count_cons : (p : X → Bool) (x : X) (xs : List X) → count_by p (x ∷ xs) ≡ one_if (p x) + count_by p xs
  count_cons p x xs = sum_by-cons (λ y. cond (p y) 1 0) x xs

  pub count_append : (p : X → Bool) (xs ys : List X) → count_by p (xs ++ ys) ≡ count_by p xs + count_by p ys
  count_append p xs ys = sum_by-append (λ y. cond (p y) 1 0) xs ys

  -- two tests that agree at each element
  pub count_agree : (p q : X → Bool) (xs : List X) → All (λ x. p x ≡ q x) xs → count_by p xs ≡ count_by q xs
  count_agree p q [] same = refl
  count_agree p q (x ∷ xs) same =
      let here : p x ≡ q x = All-head (λ y. p y ≡ q y) x xs same in
      let rest = count_agree p q xs (All-tail (λ y. p y ≡ q y) x xs same) in
      let one = ap one_if here in
      omega (arith, count_cons p x xs, count_cons q x xs, one, rest)

  filter_at : (p q : X → Bool) (x : X) (xs : List X) (b : Bool) → count_by p (filter q xs) ≡ count_by (λ y. q y && p y) xs
      → count_by p (cond b (x ∷ filter q xs) (filter q xs)) ≡ one_if (b && p x) + count_by (λ y. q y && p y) xs
  filter_at p q x xs true rest = omega (arith, count_cons p x (filter q xs), rest)
  filter_at p q x xs false rest = omega (arith, rest)

  -- those that pass both tests
  pub count_filter : (p q : X → Bool) (xs : List X) → count_by p (filter q xs) ≡ count_by (λ x. q x && p x) xs
  count_filter p q [] = refl
  count_filter p q (x ∷ xs) = filter_at p q x xs (q x) (count_filter p q xs) ∙ sym (count_cons (λ y. q y && p y) x xs)

  not_found_at : (p : X → Bool) (x : X) (xs : List X) (b : Bool) → p x ≡ b → one_if b + count_by p xs ≡ 0 → (count_by p xs ≡ 0 → find p xs ≡ None) → cond b (Some x) (find p xs) ≡ None
  not_found_at p x xs true is none rest = absurd (omega (arith, none))
  not_found_at p x xs false is none rest = rest (omega (arith, none))

  -- where none passes, none is found,
  pub not_found : (p : X → Bool) (xs : List X) → count_by p xs ≡ 0 → find p xs ≡ None
  not_found p [] none = refl
  not_found p (x ∷ xs) none = not_found_at p x xs (p x) refl (sym (count_cons p x xs) ∙ none) (not_found p xs)

  none_counted_at : (p : X → Bool) (x : X) (xs : List X) (b : Bool) → cond b (Some x) (find p xs) ≡ None → (find p xs ≡ None → count_by p xs ≡ 0) → one_if b + count_by p xs ≡ 0
  none_counted_at p x xs true none rest = absurd (cc)
  none_counted_at p x xs false none rest = omega (arith, rest none)

  -- and the other way round
  pub none_counted : (p : X → Bool) (xs : List X) → find p xs ≡ None → count_by p xs ≡ 0
  none_counted p [] none = refl
  none_counted p (x ∷ xs) none = count_cons p x xs ∙ none_counted_at p x xs (p x) none (none_counted p xs)

  any_at : (p : X → Bool) (x : X) (xs : List X) (b : Bool) → nat_lt 0 (count_by p xs) ≡ list_any p xs → nat_lt 0 (one_if b + count_by p xs) ≡ (b || list_any p xs)
  any_at p x xs true rest = grind (arith, nat_tests)
  any_at p x xs false rest = ap (nat_lt 0) (omega arith) ∙ rest

  -- some pass, if not none do
  pub any_counted : (p : X → Bool) (xs : List X) → nat_lt 0 (count_by p xs) ≡ list_any p xs
  any_counted p [] = refl
  any_counted p (x ∷ xs) = ap (nat_lt 0) (count_cons p x xs) ∙ any_at p x xs (p x) (any_counted p xs)

  is_found_at : (p : X → Bool) (x : X) (xs : List X) (b : Bool) → list_any p xs ≡ is_some (find p xs) → (b || list_any p xs) ≡ is_some (cond b (Some x) (find p xs))
  is_found_at p x xs true rest = refl
  is_found_at p x xs false rest = rest

  -- some pass where one is found
  pub is_found : (p : X → Bool) (xs : List X) → list_any p xs ≡ is_some (find p xs)
  is_found p [] = refl
  is_found p (x ∷ xs) = is_found_at p x xs (p x) (is_found p xs)

  inserted_at : (p : X → Bool) (before : X → X → Bool) (x y : X) (ys : List X) (b : Bool) → count_by p (inserted before x ys) ≡ one_if (p x) + count_by p ys
      → count_by p (cond b (x ∷ y ∷ ys) (y ∷ inserted before x ys)) ≡ one_if (p x) + count_by p (y ∷ ys)
  inserted_at p before x y ys true rest = count_cons p x (y ∷ ys)
  inserted_at p before x y ys false rest = omega (arith, count_cons p y (inserted before x ys), count_cons p y ys, rest)

  -- one row more, in its place
  pub count_inserted : (p : X → Bool) (before : X → X → Bool) (x : X) (ys : List X) → count_by p (inserted before x ys) ≡ one_if (p x) + count_by p ys
  count_inserted p before x [] = count_cons p x []
  count_inserted p before x (y ∷ ys) = inserted_at p before x y ys (before x y) (count_inserted p before x ys)

  found_counted_at : (p q : X → Bool) (x y : X) (xs : List X) (b c : Bool) → p x ≡ b → q x ≡ c → cond c (Some x) (find q xs) ≡ Some y → p y ≡ true
      → (find q xs ≡ Some y → 1 ≤ count_by (λ z. p z && q z) xs) → 1 ≤ one_if (b && c) + count_by (λ z. p z && q z) xs
  found_counted_at p q x y xs true true is also found passes rest = omega arith
  found_counted_at p q x y xs false true is also found passes rest =
      let same : x ≡ y = cc in let never : false ≡ true = sym is ∙ ap p same ∙ passes in absurd (cc)
  found_counted_at p q x y xs true false is also found passes rest = omega (arith, rest found)
  found_counted_at p q x y xs false false is also found passes rest = omega (arith, rest found)

  -- what is found by one test, and passes another one, passes both
  pub found_counted : (p q : X → Bool) (y : X) (xs : List X) → find q xs ≡ Some y → p y ≡ true → 1 ≤ count_by (λ x. p x && q x) xs
  found_counted p q y [] found passes = absurd (cc)
  found_counted p q y (x ∷ xs) found passes =
      omega (arith, count_cons (λ z. p z && q z) x xs, found_counted_at p q x y xs (p x) (q x) refl refl found passes (λ later. found_counted p q y xs later passes))

  -- those that pass both are no more than those that pass one
  pub both_le_first : (p q : X → Bool) (xs : List X) → count_by (λ x. p x && q x) xs ≤ count_by p xs
  both_le_first p q [] = omega arith
  both_le_first p q (x ∷ xs) = omega (arith, count_cons (λ z. p z && q z) x xs, count_cons p x xs, both_le_first p q xs, one_le (p x) (q x))
    where
      one_le : (b c : Bool) → one_if (b && c) ≤ one_if b
      one_le true true = omega arith
      one_le true false = omega arith
      one_le false c = omega arith

  pub both_le_second : (p q : X → Bool) (xs : List X) → count_by (λ x. p x && q x) xs ≤ count_by q xs
  both_le_second p q [] = omega arith
  both_le_second p q (x ∷ xs) = omega (arith, count_cons (λ z. p z && q z) x xs, count_cons q x xs, both_le_second p q xs, one_le (p x) (q x))
    where
      one_le : (b c : Bool) → one_if (b && c) ≤ one_if c
      one_le true c = omega arith
      one_le false true = omega arith
      one_le false false = omega arith

  found_same_at : (p q : X → Bool) (x : X) (xs : List X) (b c : Bool) → one_if b + count_by p xs ≤ 1 → one_if c + count_by q xs ≤ 1 → 1 ≤ one_if (b && c) + count_by (λ z. p z && q z) xs
      → (count_by p xs ≤ 1 → count_by q xs ≤ 1 → 1 ≤ count_by (λ z. p z && q z) xs → find p xs ≡ find q xs) → cond b (Some x) (find p xs) ≡ cond c (Some x) (find q xs)
  found_same_at p q x xs true true one other both rest = refl
  found_same_at p q x xs true false one other both rest = absurd (omega (arith, one, both, both_le_first p q xs))
  found_same_at p q x xs false true one other both rest = absurd (omega (arith, other, both, both_le_second p q xs))
  found_same_at p q x xs false false one other both rest = rest (omega (arith, one)) (omega (arith, other)) (omega (arith, both))

  -- where one at most passes either test, and one passes both, either finds the same
  pub found_same : (p q : X → Bool) (xs : List X) → count_by p xs ≤ 1 → count_by q xs ≤ 1 → 1 ≤ count_by (λ x. p x && q x) xs → find p xs ≡ find q xs
  found_same p q [] one other both = refl
  found_same p q (x ∷ xs) one other both =
      found_same_at p q x xs (p x) (q x) (omega (arith, one, count_cons p x xs)) (omega (arith, other, count_cons q x xs)) (omega (arith, both, count_cons (λ z. p z && q z) x xs)) (found_same p q xs)

  in_filter_at : (p q : X → Bool) (x : X) (xs : List X) (b : Bool) → find q (filter p xs) ≡ find (λ z. p z && q z) xs
      → find q (cond b (x ∷ filter p xs) (filter p xs)) ≡ cond (b && q x) (Some x) (find (λ z. p z && q z) xs)
  in_filter_at p q x xs true rest = ap (λ (o : Option X). cond (q x) (Some x) o) rest
  in_filter_at p q x xs false rest = rest

  -- a search among those that pass
  pub found_in_filter : (p q : X → Bool) (xs : List X) → find q (filter p xs) ≡ find (λ x. p x && q x) xs
  found_in_filter p q [] = refl
  found_in_filter p q (x ∷ xs) = in_filter_at p q x xs (p x) (found_in_filter p q xs)

  passing_at : (p : X → Bool) (x y : X) (xs : List X) (b : Bool) → p x ≡ b → cond b (Some x) (find p xs) ≡ Some y → (find p xs ≡ Some y → p y ≡ true) → p y ≡ true
  passing_at p x y xs true is found rest = let same : x ≡ y = cc in sym (ap p same) ∙ is
  passing_at p x y xs false is found rest = rest found

  -- what is found passes
  pub found_passes : (p : X → Bool) (y : X) (xs : List X) → find p xs ≡ Some y → p y ≡ true
  found_passes p y [] found = absurd (cc)
  found_passes p y (x ∷ xs) found = passing_at p x y xs (p x) refl found (found_passes p y xs)

  pub count_none : (p : X → Bool) (xs : List X) → All (λ x. p x ≡ false) xs → count_by p xs ≡ 0
  count_none p [] none = refl
  count_none p (x ∷ xs) none =
      let here = ap one_if (All-head (λ y. p y ≡ false) x xs none) in
      omega (arith, count_cons p x xs, here, count_none p xs (All-tail (λ y. p y ≡ false) x xs none))

  other_fails_at : (p q : X → Bool) (x y : X) (xs : List X) (b : Bool) → p x ≡ b → one_if b + count_by p xs ≤ 1 → cond b (Some x) (find p xs) ≡ Some y → q y ≡ false
      → (count_by p xs ≤ 1 → find p xs ≡ Some y → count_by (λ z. p z && q z) xs ≡ 0) → one_if (b && q x) + count_by (λ z. p z && q z) xs ≡ 0
  other_fails_at p q x y xs true is one found fails rest =
      let same : x ≡ y = cc in
      let here = ap one_if (ap q same ∙ fails) in
      omega (arith, here, one, both_le_first p q xs)
  other_fails_at p q x y xs false is one found fails rest = omega (arith, rest (omega (arith, one)) found)

  -- where one at most passes the first test, and it fails the second, none passes both
  pub other_fails : (p q : X → Bool) (y : X) (xs : List X) → count_by p xs ≤ 1 → find p xs ≡ Some y → q y ≡ false → count_by (λ x. p x && q x) xs ≡ 0
  other_fails p q y [] one found fails = refl
  other_fails p q y (x ∷ xs) one found fails =
      count_cons (λ z. p z && q z) x xs ∙ other_fails_at p q x y xs (p x) refl (omega (arith, one, count_cons p x xs)) found fails (λ few there. other_fails p q y xs few there fails)

module _ {X : Type 0} where
  all_fail_at : (p : X → Bool) (x : X) (xs : List X) (b : Bool) → p x ≡ b → one_if b + count_by p xs ≡ 0 → (p x ≡ false) × (count_by p xs ≡ 0)
  all_fail_at p x xs true is none = absurd (omega (arith, none))
  all_fail_at p x xs false is none = (is, omega (arith, none))

  -- where none is counted, each fails
  pub all_fail : (p : X → Bool) (xs : List X) → count_by p xs ≡ 0 → All (λ x. p x ≡ false) xs
  all_fail p [] none = All-nil (λ x. p x ≡ false)
  all_fail p (x ∷ xs) none =
      let parts = all_fail_at p x xs (p x) refl (sym (count_cons p x xs) ∙ none) in
      All-cons (λ y. p y ≡ false) x xs parts.0 (all_fail p xs parts.1)

  same_tests_at : (p q : X → Bool) (x : X) (xs : List X) (b c : Bool) → p x ≡ b → q x ≡ c → one_if b + count_by p xs ≤ 1 → one_if c + count_by q xs ≤ 1
      → 1 ≤ one_if (b && c) + count_by (λ z. p z && q z) xs → (count_by p xs ≤ 1 → count_by q xs ≤ 1 → 1 ≤ count_by (λ z. p z && q z) xs → All (λ y. p y ≡ q y) xs)
      → (p x ≡ q x) × All (λ y. p y ≡ q y) xs
  same_tests_at p q x xs true true is also one other both rest = (
    is ∙ sym also,
    λ k d within. all_fail p xs (omega (arith, one)) k d within ∙ sym (all_fail q xs (omega (arith, other)) k d within),
  )
  same_tests_at p q x xs true false is also one other both rest = absurd (omega (arith, one, both, both_le_first p q xs))
  same_tests_at p q x xs false true is also one other both rest = absurd (omega (arith, other, both, both_le_second p q xs))
  same_tests_at p q x xs false false is also one other both rest = (is ∙ sym also, rest (omega (arith, one)) (omega (arith, other)) (omega (arith, both)))

  -- where one at most passes either test, and one passes both, the tests agree
  pub same_tests : (p q : X → Bool) (xs : List X) → count_by p xs ≤ 1 → count_by q xs ≤ 1 → 1 ≤ count_by (λ x. p x && q x) xs → All (λ x. p x ≡ q x) xs
  same_tests p q [] one other both = All-nil (λ x. p x ≡ q x)
  same_tests p q (x ∷ xs) one other both =
      let parts = same_tests_at p q x xs (p x) (q x) refl refl (omega (arith, one, count_cons p x xs)) (omega (arith, other, count_cons q x xs)) (omega (arith, both, count_cons (λ z. p z && q z) x xs)) (same_tests p q xs) in
      All-cons (λ y. p y ≡ q y) x xs parts.0 parts.1

pub and_swap : (a b : Bool) → (a && b) ≡ (b && a)
and_swap true true = refl
and_swap true false = refl
and_swap false true = refl
and_swap false false = refl

module _ {X Y : Type 0} where
  -- what is asked of the rows that a function makes
  pub count_map : (p : Y → Bool) (f : X → Y) (xs : List X) → count_by p (map f xs) ≡ count_by (λ x. p (f x)) xs
  count_map p f [] = refl
  count_map p f (x ∷ xs) = omega (arith, count_cons p (f x) (map f xs), count_cons (λ y. p (f y)) x xs, count_map p f xs)
