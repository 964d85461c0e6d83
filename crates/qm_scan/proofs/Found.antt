-- What a search finds: through what is left of a list, behind a place, and in a list of rows.
use Rattle.std.proofs.Common.{◌≡◌, ◌∙◌, ◌<◌, ◌≤◌, ◌+◌, ◌&&◌, ℕ, zero, suc, Bool, true, false, List, [], ◌∷◌, length, get_or, map, drop, Some, None, refl, sym, ap, arith, option_map}
use Rattle.std.specs.List.{AllWithin, filter, find}
use Rattle.std.proofs.lemmas.List.{drop_more, get_or_default}

module _ {X : Type 0} (p : X → Bool) (xs : List X) (i : ℕ) (x : X) (within : i < length xs) (is : x ≡ get_or xs i x) where
  -- where the next element passes,
  pub find_hit : p x ≡ true → find p (drop i xs) ≡ Some x
  find_hit passes = ap (find p) (drop_more xs i x within) ∙ rw (← is, passes) refl

  -- and where it doesn't
  pub find_miss : p x ≡ false → find p (drop (i + 1) xs) ≡ find p (drop i xs)
  find_miss fails = sym (ap (find p) (drop_more xs i x within) ∙ rw (← is, fails) refl)

-- where the next element is known not to pass, whichever it is
pub find_nothing : {X : Type 0} (p : X → Bool) (xs : List X) (i : ℕ) → i < length xs → ((x : X) → x ≡ get_or xs i x → p x ≡ false) → find p (drop (i + 1) xs) ≡ find p (drop i xs)
find_nothing p [] i within fails = absurd (omega (arith, within))
find_nothing p (x ∷ xs) i within fails =
    let y = get_or (x ∷ xs) i x in
    let is : y ≡ get_or (x ∷ xs) i y = get_or_default (x ∷ xs) i x y within in
    find_miss p (x ∷ xs) i y within is (fails y is)

-- a search for what no element is
pub find_never : {X : Type 0} (p : X → Bool) (xs : List X) → find (λ x. false && p x) xs ≡ None
find_never p [] = refl
find_never p (x ∷ xs) = find_never p xs

-- a search behind a place, before which no element stands far enough and behind which each does
module _ {X : Type 0} (far p : X → Bool) where
  find_from : (xs : List X) → AllWithin (λ x. far x ≡ true) xs 0 (length xs) → find (λ x. far x && p x) xs ≡ find p xs
  find_from [] all = refl
  find_from (x ∷ xs) all =
      let here : far x ≡ true = all 0 x (omega arith) (omega arith) in
      rw (here, find_from xs (λ k d low within. all (suc k) d (omega arith) (omega (arith, within)))) refl

  pub find_behind : (xs : List X) (i : ℕ) → AllWithin (λ x. far x ≡ false) xs 0 i → AllWithin (λ x. far x ≡ true) xs i (length xs)
      → find (λ x. far x && p x) xs ≡ find p (drop i xs)
  find_behind xs zero before behind = find_from xs behind
  find_behind [] (suc i) before behind = refl
  find_behind (x ∷ xs) (suc i) before behind =
      let here : far x ≡ false = before 0 x (omega arith) (omega arith) in
      rw here
      (find_behind xs i (λ k d low below. before (suc k) d (omega arith) (omega (arith, below)))
      (λ k d low within. behind (suc k) d (omega (arith, low)) (omega (arith, within))))

-- the first of the rows of those that are listed
pub find_row : {X Y : Type 0} (row : X → Y) (far : Y → Bool) (listed : X → Bool) (xs : List X)
    → find far (map row (filter listed xs)) ≡ option_map row (find (λ x. far (row x) && listed x) xs)
find_row row far listed [] = refl
find_row {X} {Y} row far listed (x ∷ xs) = step (listed x) (far (row x)) refl refl (find_row row far listed xs)
  where
    step : (l f : Bool) → listed x ≡ l → far (row x) ≡ f
        → find far (map row (filter listed xs)) ≡ option_map row (find (λ (y : X). far (row y) && listed y) xs)
        → find far (map row (filter listed (x ∷ xs))) ≡ option_map row (find (λ (y : X). far (row y) && listed y) (x ∷ xs))
    step true true l f rest = rw (l, f) refl
    step true false l f rest = rw (l, f) rest
    step false true l f rest = rw (l, f) rest
    step false false l f rest = rw (l, f) rest

-- a search behind the end
pub find_at_end : {X : Type 0} (p : X → Bool) (xs : List X) (i : ℕ) → length xs ≤ i → find p (drop i xs) ≡ None
find_at_end p [] zero past = refl
find_at_end p [] (suc i) past = refl
find_at_end p (x ∷ xs) zero past = absurd (omega (arith, past))
find_at_end p (x ∷ xs) (suc i) past = find_at_end p xs i (omega (arith, past))
