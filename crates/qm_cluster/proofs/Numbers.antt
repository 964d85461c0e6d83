-- The numbers of nodes, from the first one on.
use Rattle.std.proofs.Common.{◌≡◌, ℕ, zero, suc, ◌+◌, List, [], ◌∷◌, ◌++◌, length, map, take, refl, sym, ◌∙◌, ap, Some, add-zero, zero-add, arith, slice_get, option_map}
use Rattle.std.specs.List.{range_with_len}
use Rattle.std.proofs.lemmas.List.{length-map, take-append-le, take_all}
use Rattle.std.proofs.lemmas.List.FromFn.{length-range_with_len}
use Rattle.std.proofs.lemmas.Option.{slice_get-map}
use Rattle.atomic_table.specs.Seated.{TableId}
use Rattle.qm_turn.specs.Turns.{fresh}
use Rattle.qm_cluster.specs.Through.{AtTurnstile, first_at}
use Rattle.qm_cluster.proofs.Places.{made_from}

-- what stands at a place of a range
pub range_at : (m n k j : ℕ) → slice_get (range_with_len m n) k ≡ Some j → m + k ≡ j
range_at m zero k j at = cc
range_at m (suc n) zero j at = let same : m ≡ j = cc in add-zero m ∙ same
range_at m (suc n) (suc k) j at = let later = range_at (m + 1) n k j at in omega (arith, later)

module _ {A : Type 0} (is_at : A → AtTurnstile) (place : TableId) (n : ℕ) (seats : List A) (first : map is_at seats ≡ map first_at (map (fresh place) (range_with_len 0 n))) where
  -- each seat is that of the node of its place, before its first turn
  pub is_first : (k : ℕ) (seat : A) → slice_get seats k ≡ Some seat → is_at seat ≡ first_at (fresh place k)
  is_first k seat at =
      let made : slice_get (map first_at (map (fresh place) (range_with_len 0 n))) k ≡ Some (is_at seat) =
      ap (λ (l : List AtTurnstile). slice_get l k) (sym first) ∙ slice_get-map is_at seats k ∙ ap (option_map is_at) at in
      let known = made_from first_at (map (fresh place) (range_with_len 0 n)) k (is_at seat) made in
      let number = made_from (fresh place) (range_with_len 0 n) k known.0 known.1 in
      sym known.2 ∙ ap first_at (sym number.2) ∙ ap (λ (j : ℕ). first_at (fresh place j)) (sym (range_at 0 n k number.0 number.1) ∙ zero-add k)

-- numbers that are those of their places are a range
pub are_range : {A : Type 0} (number : A → ℕ) (m : ℕ) (xs : List A) → ((k : ℕ) (x : A) → slice_get xs k ≡ Some x → number x ≡ m + k) → map number xs ≡ range_with_len m (length xs)
are_range number m [] each = refl
are_range number m (x ∷ xs) each =
    ap (λ (j : ℕ). j ∷ map number xs) (each 0 x refl ∙ add-zero m)
    ∙ ap (λ (l : List ℕ). m ∷ l) (are_range number (m + 1) xs (λ k y at. let is = each (suc k) y at in omega (arith, is)))

-- there are as many seats
pub as_fresh : {A : Type 0} (is_at : A → AtTurnstile) (place : TableId) (n : ℕ) (seats : List A) → map is_at seats ≡ map first_at (map (fresh place) (range_with_len 0 n)) → length seats ≡ n
as_fresh is_at place n seats first =
    sym (length-map seats is_at) ∙ ap length first ∙ length-map (map (fresh place) (range_with_len 0 n)) first_at ∙ length-map (range_with_len 0 n) (fresh place) ∙ length-range_with_len 0 n

-- a list that was written over the whole of another
pub taken_whole : {X : Type 0} (n : ℕ) (xs ys : List X) → n ≡ length xs → take n (xs ++ ys) ≡ xs
taken_whole n xs ys same = take-append-le n xs ys (omega (arith, same)) ∙ take_all n xs (omega (arith, same))
