-- A new row in its place.
use Rattle.std.proofs.Common.{◌≡◌, ◌∙◌, ℕ, ◌+◌, Bool, true, false, List, [], ◌∷◌, ◌++◌, length, get_or, take, drop, refl, ap, arith, Ordering, Less, Greater, get_or-take, get_or-drop, length-take, length-drop}
use Rattle.std.specs.List.{All, AllWithin}
use Rattle.std.specs.Ordering.{ordering_reverse, is_lt}
use Rattle.std.specs.Cmp.{IsTotalOrder}
use Rattle.std.proofs.lemmas.List.Elements.{All-tail}
use Rattle.qm_model.specs.Inserting.{inserted}

module _ {X : Type 0} (before : X → X → Bool) (x : X) where
  -- in front of the first row that it stands before
  pub inserted_between : (xs ys : List X) → All (λ y. before x y ≡ false) xs → All (λ y. before x y ≡ true) ys → inserted before x (xs ++ ys) ≡ xs ++ x ∷ ys
  inserted_between [] [] front back = refl
  inserted_between [] (y ∷ ys) front back = let here : before x y ≡ true = back 0 y (omega arith) in rw here refl
  inserted_between (z ∷ xs) ys front back =
      let other : before x z ≡ false = front 0 z (omega arith) in
      rw other (ap (λ (zs : List X). z ∷ zs) (inserted_between xs ys (All-tail (λ y. before x y ≡ false) z xs front) back))

module _ {X K : Type 0} {R : K → K → Ordering} (o : IsTotalOrder R) (key : X → K) (before : X → X → Bool) (x : X) (tests : (y : X) → before x y ≡ is_lt (R (key x) (key y))) where
  -- between the rows with lesser keys and those with greater ones
  pub inserted_at : (xs : List X) (i j : ℕ) → AllWithin (λ y. R (key y) (key x) ≡ Less) xs 0 i → AllWithin (λ y. R (key y) (key x) ≡ Greater) xs j (length xs)
      → inserted before x (take i xs ++ drop j xs) ≡ take i xs ++ x ∷ drop j xs
  inserted_at xs i j lesser greater = inserted_between before x (take i xs) (drop j xs) front back
    where
      not_before : (y : X) → R (key y) (key x) ≡ Less → before x y ≡ false
      not_before y less = tests y ∙ ap is_lt (o.antisymm (key x) (key y) ∙ ap ordering_reverse less)

      is_before : (y : X) → R (key y) (key x) ≡ Greater → before x y ≡ true
      is_before y more = tests y ∙ ap is_lt (o.antisymm (key x) (key y) ∙ ap ordering_reverse more)

      front : All (λ y. before x y ≡ false) (take i xs)
      front k d within =
          let size = length-take i xs in
          rw (get_or-take i xs k d (omega (arith, within, size))) (not_before (get_or xs k d) (lesser k d (omega arith) (omega (arith, within, size))))

      back : All (λ y. before x y ≡ true) (drop j xs)
      back k d within =
          let size = length-drop j xs in
          rw (get_or-drop j xs k d) (is_before (get_or xs (j + k) d) (greater (j + k) d (omega arith) (omega (arith, within, size))))
