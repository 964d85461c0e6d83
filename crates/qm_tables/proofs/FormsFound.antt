-- What a search finds.
use Rattle.std.proofs.Common.{◌≡◌, Bool, true, false, List, [], ◌∷◌, is_some, refl, arith, All, find, IfSome}
use Rattle.std.proofs.lemmas.List.Elements.{All-tail, All-cons, All-nil}

-- what holds of each element holds of the one that is found
pub found_all : {X : Type 0} (P : X → Type 0) (p : X → Bool) (xs : List X) → All P xs → IfSome (find p xs) P
found_all P p [] all = tt
found_all {X} P p (x ∷ xs) all = first (p x) refl (found_all P p xs (All-tail P x xs all))
  where
    first : (b : Bool) → p x ≡ b → IfSome (find p xs) P → IfSome (find p (x ∷ xs)) P
    first true e rest = rw e (all 0 x (omega arith))
    first false e rest = rw e rest

-- where nothing is found, no element passes
pub none_found : {X : Type 0} (p : X → Bool) (xs : List X) → is_some (find p xs) ≡ false → All (λ x. p x ≡ false) xs
none_found p [] none = All-nil (λ x. p x ≡ false)
none_found {X} p (x ∷ xs) none = first (p x) refl (none_found p xs)
  where
    first : (b : Bool) → p x ≡ b → (is_some (find p xs) ≡ false → All (λ y. p y ≡ false) xs) → All (λ y. p y ≡ false) (x ∷ xs)
    first true e rest = let contradiction : true ≡ false = rw e at none in cc contradiction
    first false e rest = let others : is_some (find p xs) ≡ false = rw e at none in All-cons (λ y. p y ≡ false) x xs e (rest others)
