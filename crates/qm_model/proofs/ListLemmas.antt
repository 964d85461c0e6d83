-- Lists whose elements change or go one by one.
use Rattle.std.proofs.Common.{◌≡◌, suc, ◌≤◌, ◌⊎◌, inl, inr, Bool, true, false, ◌||◌, List, [], ◌∷◌, length, refl, sym, subst, arith, lit≤, All, AllPairs, Contains}
use Rattle.std.specs.List.{list_any}
use Rattle.std.proofs.lemmas.List.Elements.{All-head, All-tail, All-cons, All-nil}
use Rattle.std.proofs.lemmas.List.Kept.{AllPairs-cons}
use Rattle.qm_model.proofs.SettlingLemmas.{IsIn}

module _ {X : Type 0} (R : X → X → Type 0) where
  -- each element is related to each later one
  abbrev pub Pairs : List X → Type 0
  Pairs [] = Unit {0}
  Pairs (x ∷ xs) = All (R x) xs × Pairs xs

  pub pairs_of : (xs : List X) → AllPairs R xs → Pairs xs
  pairs_of [] h = tt
  pairs_of (x ∷ xs) h = (λ k d within. h 0 (suc k) d (omega arith) (omega arith), pairs_of xs (λ i j d below within. h (suc i) (suc j) d (omega arith) (omega arith)))

  pub all_pairs_of : (xs : List X) → Pairs xs → AllPairs R xs
  all_pairs_of [] h = λ i j d below within. absurd (omega arith)
  all_pairs_of (x ∷ xs) h = AllPairs-cons R x xs h.0 (all_pairs_of xs h.1)

-- the elements go, or turn into others
pub data Becomes {X : Type 0} (G : X → Type 0) (R : X → X → Type 0) : List X → List X → Type 0 where
  none : Becomes G R [] []
  gone : {x : X} {xs ys : List X} → G x → Becomes G R xs ys → Becomes G R (x ∷ xs) ys
  turned : {x y : X} {xs ys : List X} → R x y → Becomes G R xs ys → Becomes G R (x ∷ xs) (y ∷ ys)

pub in_all : {X : Type 0} (P : X → Type 0) (x : X) (xs : List X) → All P xs → IsIn x xs → P x
in_all P x [] h among = absurd among
in_all P x (y ∷ ys) h (inl same) = subst P (sym same) (All-head P y ys h)
in_all P x (y ∷ ys) h (inr among) = in_all P x ys (All-tail P y ys h) among

module _ {X : Type 0} (G : X → Type 0) (R : X → X → Type 0) where
  pub becomes_all : (P Q : X → Type 0) → ((x y : X) → R x y → P x → Q y) → {xs ys : List X} → Becomes G R xs ys → All P xs → All Q ys
  becomes_all P Q keeps none h = All-nil Q
  becomes_all P Q keeps (gone {x = x} {xs = xs} g b) h = becomes_all P Q keeps b (All-tail P x xs h)
  becomes_all P Q keeps (turned {x = x} {y = y} {xs = xs} {ys = ys} r b) h =
      All-cons Q y ys (keeps x y r (All-head P x xs h)) (becomes_all P Q keeps b (All-tail P x xs h))

  pub becomes_pairs : (S T : X → X → Type 0) → ((x y u v : X) → R x y → R u v → S x u → T y v) → {xs ys : List X} → Becomes G R xs ys → Pairs S xs → Pairs T ys
  becomes_pairs S T keeps none h = tt
  becomes_pairs S T keeps (gone g b) h = becomes_pairs S T keeps b h.1
  becomes_pairs S T keeps (turned {x = x} {y = y} r b) h = (becomes_all (S x) (T y) (λ u v k. keeps x y u v r k) b h.0, becomes_pairs S T keeps b h.1)

  pub becomes_shorter : {xs ys : List X} → Becomes G R xs ys → length ys ≤ length xs
  becomes_shorter none = lit≤ tt
  becomes_shorter (gone g b) = omega (arith, becomes_shorter b)
  becomes_shorter (turned r b) = omega (arith, becomes_shorter b)

  or_left : (a b : Bool) → a ≡ true → (a || b) ≡ true
  or_left true b h = refl
  or_left false b h = cc

  or_right : (a b : Bool) → b ≡ true → (a || b) ≡ true
  or_right true b h = refl
  or_right false b h = h

  either : (a b : Bool) → (a || b) ≡ true → (a ≡ true) ⊎ (b ≡ true)
  either true b h = inl refl
  either false b h = inr h

  pub becomes_any : (p q : X → Bool) → ((x : X) → G x → p x ≡ true → ⊥) → ((x y : X) → R x y → p x ≡ true → q y ≡ true)
      → {xs ys : List X} → Becomes G R xs ys → list_any p xs ≡ true → list_any q ys ≡ true
  becomes_any p q goes keeps none h = cc
  becomes_any p q goes keeps (gone {x = x} {xs = xs} g b) h =
      elim (either (p x) (list_any p xs) h) [ inl here ↦ absurd (goes x g here) | inr there ↦ becomes_any p q goes keeps b there ]
  becomes_any p q goes keeps (turned {x = x} {y = y} {xs = xs} {ys = ys} r b) h =
      elim (either (p x) (list_any p xs) h) [
        | inl here ↦ or_left (q y) (list_any q ys) (keeps x y r here)
        | inr there ↦ or_right (q y) (list_any q ys) (becomes_any p q goes keeps b there)
      ]

pub contains_in : {X : Type 0} (x : X) (xs : List X) → IsIn x xs → Contains xs x
contains_in x [] among = absurd among
contains_in x (y ∷ ys) (inl same) = (0, omega arith, sym same)
contains_in x (y ∷ ys) (inr among) = let found = contains_in x ys among in (suc found.0, omega (arith, found.1), found.2)
