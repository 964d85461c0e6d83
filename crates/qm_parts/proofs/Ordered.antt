-- What rows in order of their numbers say of tests.
use Rattle.std.proofs.Common.{◌≡◌, ◌∙◌, ℕ, ◌+◌, ◌<◌, ◌≤◌, ◌==◌, Bool, true, false, cond, ◌&&◌, nat_lt, List, [], ◌∷◌, count_by, find, get_or, Some, refl, ap, arith, All, option_map, nat_cmp, Less}
use Rattle.std.proofs.lemmas.Bool.Decides.{nat_tests}
use Rattle.std.proofs.lemmas.List.Elements.{All-cons, All-nil}
use Rattle.qm_model.specs.Consistent.{IsInOrder}
use Rattle.qm_keyed.proofs.Pairs.{pairs_first, pairs_tail}
use Rattle.qm_parts.proofs.Counts.{one_if, count_cons, count_none, both_le_second}

pub less_is : (m n : ℕ) → nat_cmp m n ≡ Less → m < n
less_is m n less = grind (arith, nat_tests)

not_same : (m n : ℕ) → m < n → (m == n) ≡ false
not_same m n less = grind (arith, nat_tests)

not_that : (m n k : ℕ) → m < n → (m == k) ≡ true → (n == k) ≡ false
not_that m n k less is = grind (arith, nat_tests)

not_past : (m n k : ℕ) → m < n → nat_lt m k ≡ false → (n == k) ≡ false
not_past m n k less is = grind (arith, nat_tests)

pub itself : (n : ℕ) → (n == n) ≡ true
itself n = grind (arith, nat_tests)

at_or_above : (m n : ℕ) → (m == n) ≡ true → m ≡ n
at_or_above m n is = grind (arith, nat_tests)

module _ {X : Type 0} (key : X → ℕ) where
  abbrev Ordered : List X → Type 0
  Ordered xs = IsInOrder nat_cmp key xs

  abbrev Below : X → X → Type 0
  Below x y = nat_cmp (key x) (key y) ≡ Less

  pub later : (x : X) (xs : List X) → Ordered (x ∷ xs) → All (λ y. key x < key y) xs
  later x xs order k d within = less_is (key x) (key (get_or xs k d)) (pairs_first Below x xs order k d within)

  pub rest_of : (x : X) (xs : List X) → Ordered (x ∷ xs) → Ordered xs
  rest_of x xs order = pairs_tail Below x xs order

  once_at : (n : ℕ) (x : X) (xs : List X) (b : Bool) → (key x == n) ≡ b → All (λ y. key x < key y) xs → count_by (λ y. key y == n) xs ≤ 1 → one_if b + count_by (λ y. key y == n) xs ≤ 1
  once_at n x xs true is above rest = omega (arith, count_none (λ y. key y == n) xs (λ k d within. not_that (key x) (key (get_or xs k d)) n (above k d within) is))
  once_at n x xs false is above rest = omega (arith, rest)

  -- one row at most has a number
  pub once : (n : ℕ) (xs : List X) → Ordered xs → count_by (λ x. key x == n) xs ≤ 1
  once n [] order = omega arith
  once n (x ∷ xs) order = omega (arith, count_cons (λ y. key y == n) x xs, once_at n x xs (key x == n) refl (later x xs order) (once n xs (rest_of x xs order)))

  -- so each row is found under its number
  pub each_found : (xs : List X) → Ordered xs → All (λ x. find (λ y. key y == key x) xs ≡ Some x) xs
  each_found [] order = All-nil (λ x. find (λ y. key y == key x) [] ≡ Some x)
  each_found (x ∷ xs) order =
      All-cons (λ z. find (λ y. key y == key z) (x ∷ xs) ≡ Some z) x xs
      (ap (λ (b : Bool). cond b (Some x) (find (λ y. key y == key x) xs)) (itself (key x)))
      (λ k d within.
      ap (λ (b : Bool). cond b (Some x) (find (λ y. key y == key (get_or xs k d)) xs)) (not_same (key x) (key (get_or xs k d)) (later x xs order k d within))
      ∙ each_found xs (rest_of x xs order) k d within)

  module _ (p : X → Bool) (n : ℕ) where
    abbrev under : List X → ℕ
    under xs = count_by (λ x. p x && nat_lt (key x) n) xs

    abbrev there : List X → ℕ
    there xs = count_by (λ x. p x && key x == n) xs

    least_here : (x : X) (xs : List X) (b c : Bool) → nat_lt (key x) n ≡ b → (key x == n) ≡ c → one_if b + under xs ≡ 0 → 1 ≤ one_if c + there xs → All (λ y. key x < key y) xs → key x ≡ n
    least_here x xs true c is here none some above = absurd (omega (arith, none))
    least_here x xs false true is here none some above = at_or_above (key x) n here
    least_here x xs false false is here none some above =
        let past = count_none (λ y. key y == n) xs (λ k d within. not_past (key x) (key (get_or xs k d)) n (above k d within) is) in
        absurd (omega (arith, some, both_le_second p (λ y. key y == n) xs, past))

    least_at : (x : X) (xs : List X) (b : Bool) → one_if (b && nat_lt (key x) n) + under xs ≡ 0 → 1 ≤ one_if (b && key x == n) + there xs → All (λ y. key x < key y) xs
        → (under xs ≡ 0 → 1 ≤ there xs → option_map key (find p xs) ≡ Some n) → option_map key (cond b (Some x) (find p xs)) ≡ Some n
    least_at x xs true none some above rest = ap (λ (m : ℕ). Some m) (least_here x xs (nat_lt (key x) n) (key x == n) refl refl none some above)
    least_at x xs false none some above rest = rest (omega (arith, none)) (omega (arith, some))

    -- where a row of this number passes, and none of a lesser one, it is the first that passes
    pub least_is_first : (xs : List X) → Ordered xs → under xs ≡ 0 → 1 ≤ there xs → option_map key (find p xs) ≡ Some n
    least_is_first [] order none some = absurd (omega (arith, some))
    least_is_first (x ∷ xs) order none some =
        least_at x xs (p x) (omega (arith, none, count_cons (λ y. p y && nat_lt (key y) n) x xs)) (omega (arith, some, count_cons (λ y. p y && key y == n) x xs)) (later x xs order)
        (least_is_first xs (rest_of x xs order))
