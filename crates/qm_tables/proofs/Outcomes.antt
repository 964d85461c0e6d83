-- What becomes of entries of which one is changed, or goes.
use Rattle.std.proofs.Common.{◌≡◌, Bool, true, false, not, cond, if◌then◌else◌, List, [], ◌∷◌, ◌++◌, map, Option, Some, None, refl, ap, arith, All, filter, flat_map, option_to_list}
use Rattle.std.proofs.lemmas.List.Elements.{All-tail}

module _ {X : Type 0} (test : X → Bool) (change : X → X) where
  abbrev changing : List X → List X
  changing xs = flat_map (λ x. if test x then option_to_list (Some (change x)) else x ∷ []) xs

  abbrev changed_each : List X → List X
  changed_each xs = map (λ x. if test x then change x else x) xs

  change_one : (x : X) (xs : List X) (b : Bool) → changing xs ≡ changed_each xs → (if b then option_to_list (Some (change x)) else x ∷ []) ++ changing xs ≡ (if b then change x else x) ∷ changed_each xs
  change_one x xs true rest = ap (λ (ys : List X). change x ∷ ys) rest
  change_one x xs false rest = ap (λ (ys : List X). x ∷ ys) rest

  -- where each that passes is changed,
  pub flat_changed : (xs : List X) → flat_map (λ x. if test x then option_to_list (Some (change x)) else x ∷ []) xs ≡ map (λ x. if test x then change x else x) xs
  flat_changed [] = refl
  flat_changed (x ∷ xs) = change_one x xs (test x) (flat_changed xs)

module _ {X : Type 0} (test : X → Bool) where
  abbrev going : List X → List X
  going xs = flat_map (λ x. if test x then option_to_list None else x ∷ []) xs

  abbrev left_of : List X → List X
  left_of xs = filter (λ x. not (test x)) xs

  go_one : (x : X) (xs : List X) (b : Bool) → going xs ≡ left_of xs → (if b then option_to_list None else x ∷ []) ++ going xs ≡ cond (not b) (x ∷ left_of xs) (left_of xs)
  go_one x xs true rest = rest
  go_one x xs false rest = ap (λ (ys : List X). x ∷ ys) rest

  -- where each that passes goes,
  pub flat_gone : (xs : List X) → flat_map (λ x. if test x then option_to_list None else x ∷ []) xs ≡ filter (λ x. not (test x)) xs
  flat_gone [] = refl
  flat_gone (x ∷ xs) = go_one x xs (test x) (flat_gone xs)

  -- and where none passes
  pub flat_same : (outcome : X → Option X) (xs : List X) → All (λ x. test x ≡ false) xs → flat_map (λ x. if test x then option_to_list (outcome x) else x ∷ []) xs ≡ xs
  flat_same outcome [] none = refl
  flat_same outcome (x ∷ xs) none =
      let other : test x ≡ false = none 0 x (omega arith) in
      rw other (ap (λ (ys : List X). x ∷ ys) (flat_same outcome xs (All-tail (λ y. test y ≡ false) x xs none)))
