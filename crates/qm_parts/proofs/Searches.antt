-- Walks over a list that count what passes a test, or look for it.
use Rattle.std.proofs.Common.{◌≡◌, ◌∙◌, ℕ, zero, suc, ◌+◌, ◌<◌, ◌≤◌, ◌||◌, Bool, true, false, cond, List, [], ◌∷◌, length, get_or, take, count_by, find, None, Some, refl, sym, ap, arith, take_all}
use Rattle.std.specs.List.{list_any}
use Rattle.std.proofs.lemmas.List.Folds.{list_any_at, list_any_more}
use Rattle.std.proofs.lemmas.List.Sums.{count_by_more_yes, count_by_more_no}

neither_first : (a b : Bool) → (a || b) ≡ false → a ≡ false
neither_first true b none = absurd (cc)
neither_first false b none = refl

neither_last : (a b : Bool) → (a || b) ≡ false → b ≡ false
neither_last true b none = absurd (cc)
neither_last false b none = none

module _ {X : Type 0} (p : X → Bool) where
  -- where none passes none is found
  pub none_found : (xs : List X) → list_any p xs ≡ false → None ≡ find p xs
  none_found [] none = refl
  none_found (y ∷ ys) none =
      none_found ys (neither_last (p y) (list_any p ys) none) ∙ sym (ap (λ (b : Bool). cond b (Some y) (find p ys)) (neither_first (p y) (list_any p ys) none))

  -- and the first one that passes is found
  pub found_here : (xs : List X) (i : ℕ) (x : X) → i < length xs → x ≡ get_or xs i x → list_any p (take i xs) ≡ false → p x ≡ true → Some x ≡ find p xs
  found_here [] i x within is none passes = absurd (omega (arith, within))
  found_here (y ∷ ys) zero x within is none passes =
      ap (λ (z : X). Some z) is ∙ sym (ap (λ (b : Bool). cond b (Some y) (find p ys)) (ap p (sym is) ∙ passes))
  found_here (y ∷ ys) (suc i) x within is none passes =
      found_here ys i x (omega (arith, within)) is (neither_last (p y) (list_any p (take i ys)) none) passes
      ∙ sym (ap (λ (b : Bool). cond b (Some y) (find p ys)) (neither_first (p y) (list_any p (take i ys)) none))

-- one element more
module _ {X : Type 0} (p : X → Bool) (xs : List X) (i : ℕ) (x : X) (within : i < length xs) (is : x ≡ get_or xs i x) where
  pub counted : p x ≡ true → count_by p (take (i + 1) xs) ≡ count_by p (take i xs) + 1
  counted passes = count_by_more_yes p xs i x within (ap p (sym is) ∙ passes)

  pub passed : p x ≡ false → count_by p (take (i + 1) xs) ≡ count_by p (take i xs)
  passed fails = count_by_more_no p xs i x within (ap p (sym is) ∙ fails)

  pub any_here : p x ≡ true → true ≡ list_any p xs
  any_here passes = sym (list_any_at p xs i x within (ap p (sym is) ∙ passes))

  pub none_more : list_any p (take i xs) ≡ false → p x ≡ false → list_any p (take (i + 1) xs) ≡ false
  none_more none fails = list_any_more p xs i x within ∙ ap (λ (b : Bool). b || p (get_or xs i x)) none ∙ ap p (sym is) ∙ fails

pub none_of_all : {X : Type 0} (p : X → Bool) (i : ℕ) (xs : List X) → list_any p (take i xs) ≡ false → length xs ≤ i → false ≡ list_any p xs
none_of_all p i xs none past = sym none ∙ ap (list_any p) (take_all i xs past)
