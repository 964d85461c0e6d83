-- Rows that are read through a function: their order and their places.
use Rattle.std.proofs.Common.{◌≡◌, ℕ, zero, suc, ◌<◌, List, [], ◌∷◌, length, get_or, map, arith, Result, Ok, Err, Ordering, Less, Equal, Greater}
use Rattle.std.proofs.lemmas.List.{get_or-map, length-map}
use Rattle.qm_model.specs.Consistent.{IsInOrder}
use Rattle.qm_keyed.specs.Places.{IsPlace}

-- what holds of what is read at a place
pub at_map : {X Y : Type 0} (v : X → Y) (P : Y → Type 0) (xs : List X) (i : ℕ) (e : Y) → i < length xs → ((d : X) → P (v (get_or xs i d))) → P (get_or (map v xs) i e)
at_map v P [] i e within holds = absurd (omega arith)
at_map v P (x ∷ xs) zero e within holds = holds x
at_map v P (x ∷ xs) (suc i) e within holds = at_map v P xs i e (omega (arith, within)) holds

module _ {X Y K : Type 0} (R : K → K → Ordering) (v : X → Y) (key : Y → K) (xs : List X) where
  pub order_unmapped : IsInOrder R key (map v xs) → IsInOrder R (λ x. key (v x)) xs
  order_unmapped order i j d below within =
      let size = length-map xs v in
      let first : get_or (map v xs) i (v d) ≡ v (get_or xs i d) = get_or-map v xs i d (v d) (omega (arith, below, within)) in
      let second : get_or (map v xs) j (v d) ≡ v (get_or xs j d) = get_or-map v xs j d (v d) within in
      rw (← first, ← second) (order i j (v d) below (omega (arith, within, size)))

  pub place_mapped : (wanted : K) (r : Result ℕ ℕ) → IsPlace R (λ x. key (v x)) wanted xs r → IsPlace R key wanted (map v xs) r
  place_mapped wanted (Ok i) place =
      let size = length-map xs v in
      record {
        within = omega (arith, place.within, size);
        before = λ k e low below. at_map v (λ y. R (key y) wanted ≡ Less) xs k e (omega (arith, below, place.within)) (λ d. place.before k d low below);
        here = λ e. at_map v (λ y. R (key y) wanted ≡ Equal) xs i e place.within (λ d. place.here d);
        behind = λ k e low below. at_map v (λ y. R (key y) wanted ≡ Greater) xs k e (omega (arith, below, size)) (λ d. place.behind k d low (omega (arith, below, size)));
      }
  place_mapped wanted (Err i) place =
      let size = length-map xs v in
      record {
        within = omega (arith, place.within, size);
        before = λ k e low below. at_map v (λ y. R (key y) wanted ≡ Less) xs k e (omega (arith, below, place.within)) (λ d. place.before k d low below);
        behind = λ k e low below. at_map v (λ y. R (key y) wanted ≡ Greater) xs k e (omega (arith, below, size)) (λ d. place.behind k d low (omega (arith, below, size)));
      }
