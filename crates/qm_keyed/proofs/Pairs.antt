-- What holds of each two rows of a list holds of those of its parts, and of those of a list that is made of them.
use Rattle.std.proofs.Common.{ℕ, zero, suc, ◌+◌, ◌<◌, ◌≤◌, List, [], ◌∷◌, ◌++◌, length, get_or, take, drop, arith, slice_set}
use Rattle.std.specs.List.{All, AllWithin, AllPairs}
use Rattle.std.proofs.lemmas.List.{get_or-take, get_or-drop, length-take, length-drop, set_split}
use Rattle.std.proofs.lemmas.List.Elements.{All-append}

module _ {X : Type 0} (R : X → X → Type 0) where
  pub pairs_nil : AllPairs R []
  pairs_nil i j d below within = absurd (omega arith)

  pub pairs_cons : (x : X) (xs : List X) → All (R x) xs → AllPairs R xs → AllPairs R (x ∷ xs)
  pairs_cons x xs first rest zero zero d below within = absurd (omega arith)
  pairs_cons x xs first rest zero (suc j) d below within = first j d (omega (arith, within))
  pairs_cons x xs first rest (suc i) zero d below within = absurd (omega arith)
  pairs_cons x xs first rest (suc i) (suc j) d below within = rest i j d (omega (arith, below)) (omega (arith, within))

  pub pairs_tail : (x : X) (xs : List X) → AllPairs R (x ∷ xs) → AllPairs R xs
  pairs_tail x xs pairs i j d below within = pairs (suc i) (suc j) d (omega (arith, below)) (omega (arith, within))

  pub pairs_first : (x : X) (xs : List X) → AllPairs R (x ∷ xs) → All (R x) xs
  pairs_first x xs pairs k d within = pairs 0 (suc k) d (omega arith) (omega (arith, within))

  pub pairs_append : (xs ys : List X) → AllPairs R xs → AllPairs R ys → ((i j : ℕ) (d : X) → i < length xs → j < length ys → R (get_or xs i d) (get_or ys j d)) → AllPairs R (xs ++ ys)
  pairs_append [] ys front back across = back
  pairs_append (x ∷ xs) ys front back across =
      pairs_cons x (xs ++ ys)
      (All-append (R x) xs ys (pairs_first x xs front) (λ k d within. across 0 k d (omega arith) within))
      (pairs_append xs ys (pairs_tail x xs front) back (λ i j d below within. across (suc i) j d (omega (arith, below)) within))

  pub pairs_take : (n : ℕ) (xs : List X) → AllPairs R xs → AllPairs R (take n xs)
  pairs_take n xs pairs i j d below within =
      let size = length-take n xs in
      rw (get_or-take n xs i d (omega (arith, below, within, size)), get_or-take n xs j d (omega (arith, within, size))) (pairs i j d below (omega (arith, within, size)))

  pub pairs_drop : (n : ℕ) (xs : List X) → AllPairs R xs → AllPairs R (drop n xs)
  pairs_drop n xs pairs i j d below within =
      let size = length-drop n xs in
      rw (get_or-drop n xs i d, get_or-drop n xs j d) (pairs (n + i) (n + j) d (omega (arith, below)) (omega (arith, within, size)))

  -- without the rows between two places
  pub pairs_without : (xs : List X) (i j : ℕ) → i ≤ j → AllPairs R xs → AllPairs R (take i xs ++ drop j xs)
  pairs_without xs i j le pairs = pairs_append (take i xs) (drop j xs) (pairs_take i xs pairs) (pairs_drop j xs pairs) across
    where
      across : (a b : ℕ) (d : X) → a < length (take i xs) → b < length (drop j xs) → R (get_or (take i xs) a d) (get_or (drop j xs) b d)
      across a b d below within =
          let front = length-take i xs in
          let back = length-drop j xs in
          rw (get_or-take i xs a d (omega (arith, below, front)), get_or-drop j xs b d) (pairs a (j + b) d (omega (arith, below, front, le)) (omega (arith, within, back)))

  -- with another row in place of those between two places
  pub pairs_around : (xs : List X) (i j : ℕ) (x : X) → i ≤ j → AllPairs R xs → AllWithin (λ y. R y x) xs 0 i → AllWithin (R x) xs j (length xs) → AllPairs R (take i xs ++ x ∷ drop j xs)
  pairs_around xs i j x le pairs before behind =
      pairs_append (take i xs) (x ∷ drop j xs) (pairs_take i xs pairs) (pairs_cons x (drop j xs) after (pairs_drop j xs pairs)) across
    where
      after : All (R x) (drop j xs)
      after k d within =
          let back = length-drop j xs in
          rw (get_or-drop j xs k d) (behind (j + k) d (omega arith) (omega (arith, within, back)))

      across : (a b : ℕ) (d : X) → a < length (take i xs) → b < length (x ∷ drop j xs) → R (get_or (take i xs) a d) (get_or (x ∷ drop j xs) b d)
      across a zero d below within =
          let front = length-take i xs in
          rw (get_or-take i xs a d (omega (arith, below, front))) (before a d (omega arith) (omega (arith, below, front)))
      across a (suc b) d below within =
          let front = length-take i xs in
          let back = length-drop j xs in
          rw (get_or-take i xs a d (omega (arith, below, front)), get_or-drop j xs b d) (pairs a (j + b) d (omega (arith, below, front, le)) (omega (arith, within, back)))

  -- with another row in the place of one
  pub pairs_set : (xs : List X) (i : ℕ) (x : X) → i < length xs → AllPairs R xs → AllWithin (λ y. R y x) xs 0 i → AllWithin (R x) xs (suc i) (length xs) → AllPairs R (slice_set xs i x)
  pairs_set xs i x within pairs before behind = rw (set_split xs i x within) (pairs_around xs i (suc i) x (omega arith) pairs before behind)
