-- What stands at places of lists.
use Rattle.std.proofs.Common.{◌≡◌, ◌<◌, ◌≤◌, ℕ, zero, suc, List, [], ◌∷◌, length, map, refl, ◌∙◌, ap, subst, Some, arith, slice_get}
use Rattle.std.specs.List.{AllByRecursion}
use Rattle.std.proofs.lemmas.Bool.Decides.{nat_tests}
use Rattle.qm_turn.specs.History.{times}

-- there is something at each place
pub there : {X : Type 0} (xs : List X) (k : ℕ) → k < length xs → (x : X) × (slice_get xs k ≡ Some x)
there [] k low = absurd (omega arith)
there (x ∷ xs) zero low = (x, refl)
there (x ∷ xs) (suc k) low = there xs k (omega arith)

-- what holds at each place holds of all
pub all_there : {X : Type 0} (P : X → Type 0) (xs : List X) → ((k : ℕ) (x : X) → slice_get xs k ≡ Some x → P x) → AllByRecursion P xs
all_there P [] each = tt
all_there P (x ∷ xs) each = (each 0 x refl, all_there P xs (λ k y at. each (suc k) y at))

-- what holds of all holds at each place
pub at_place : {X : Type 0} (P : X → Type 0) (xs : List X) (k : ℕ) (x : X) → AllByRecursion P xs → slice_get xs k ≡ Some x → P x
at_place P [] k x all at = cc
at_place P (y ∷ xs) zero x all at = let same : y ≡ x = cc in subst P same all.0
at_place P (y ∷ xs) (suc k) x all at = at_place P xs k x all.1 at

-- a number that stands at a place is there
pub times_there : {X : Type 0} (f : X → ℕ) (xs : List X) (k n : ℕ) (x : X) → slice_get xs k ≡ Some x → f x ≡ n → 1 ≤ times n (map f xs)
times_there f [] k n x at is = cc
times_there f (y ∷ xs) zero n x at is = let same : y ≡ x = cc in let number : f y ≡ n = ap f same ∙ is in grind (arith, nat_tests)
times_there f (y ∷ xs) (suc k) n x at is = let later = times_there f xs k n x at is in omega (arith, later)

pub mapped : {X Y Z : Type 0} (f : Y → Z) (g : X → Y) (xs : List X) → map f (map g xs) ≡ map (λ (x : X). f (g x)) xs
mapped f g [] = refl
mapped f g (x ∷ xs) = ap (λ (l : List _). f (g x) ∷ l) (mapped f g xs)

-- what stands at a place of a list that was made from another
pub made_from : {X Z : Type 0} (f : X → Z) (xs : List X) (k : ℕ) (z : Z) → slice_get (map f xs) k ≡ Some z → (x : X) × (slice_get xs k ≡ Some x) × (f x ≡ z)
made_from f [] k z at = cc
made_from f (x ∷ xs) zero z at = (x, refl, (let same : f x ≡ z = cc in same))
made_from f (x ∷ xs) (suc k) z at = made_from f xs k z at

pub get_below : {X : Type 0} (xs : List X) (k : ℕ) (x : X) → slice_get xs k ≡ Some x → k < length xs
get_below [] k x is = cc
get_below (y ∷ xs) zero x is = omega arith
get_below (y ∷ xs) (suc k) x is = let low = get_below xs k x is in omega arith
