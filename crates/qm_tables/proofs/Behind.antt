-- A list behind its first elements, which are gone: what stands there, and what an edit there makes of it.
use Rattle.std.proofs.Common.{◌≡◌, ◌∙◌, ℕ, zero, suc, ◌+◌, ◌<◌, ◌≤◌, List, [], ◌∷◌, ◌++◌, length, get_or, map, take, drop, set, Some, refl, sym, ap, arith, remove, slice_get}
use Rattle.std.proofs.lemmas.List.{drop-drop, drop-map, drop-set-add, get_or-drop, length-drop, map-append, take-map}
use Rattle.qm_tables.specs.Boxed.{brought}

-- g elements are gone, and the place k of all is the place i behind them
module _ {X : Type 0} where
  pub stands_behind : (g : ℕ) (xs : List X) (i k : ℕ) → k ≡ g + i → slice_get xs k ≡ slice_get (drop g xs) i
  stands_behind zero xs i k is = let same : k ≡ i = omega (arith, is) in ap (slice_get xs) same
  stands_behind (suc g) [] i k is = refl
  stands_behind (suc g) (x ∷ xs) i zero is = absurd (omega (arith, is))
  stands_behind (suc g) (x ∷ xs) i (suc k) is = stands_behind g xs i k (omega (arith, is))

  removed_from_none : (i : ℕ) → remove {X = X} [] i ≡ []
  removed_from_none zero = refl
  removed_from_none (suc i) = refl

  pub removed_behind : (g : ℕ) (xs : List X) (i k : ℕ) → k ≡ g + i → drop g (remove xs k) ≡ remove (drop g xs) i
  removed_behind zero xs i k is = let same : k ≡ i = omega (arith, is) in ap (remove xs) same
  removed_behind (suc g) [] i k is = rw (removed_from_none k, removed_from_none i) refl
  removed_behind (suc g) (x ∷ xs) i zero is = absurd (omega (arith, is))
  removed_behind (suc g) (x ∷ xs) i (suc k) is = removed_behind g xs i k (omega (arith, is))

  module _ (g : ℕ) (xs : List X) where
    -- the first of them goes too
    pub first_stands : (i : ℕ) → i ≡ 0 → slice_get xs g ≡ slice_get (drop g xs) i
    first_stands i first = stands_behind g xs i g (omega (arith, first))

    pub first_goes : (i : ℕ) → i ≡ 0 → drop (g + 1) xs ≡ remove (drop g xs) i
    first_goes i first = rw first (sym (drop-drop 1 g xs))

    pub changed_behind : (change : X → X) (ys : List X) (i : ℕ) (d : X) → ys ≡ set xs (g + i) (change (get_or xs (g + i) d)) → drop g ys ≡ set (drop g xs) i (change (get_or (drop g xs) i d))
    changed_behind change ys i d is =
        ap (drop g) is
        ∙ drop-set-add g xs i (change (get_or xs (g + i) d))
        ∙ ap (λ (x : X). set (drop g xs) i (change x)) (sym (get_or-drop g xs i d))

-- one that is brought to the front of those that aren't gone, and goes then
module _ {X : Type 0} where
  ends_there : (p k : ℕ) (xs : List X) (d : X) → k ≡ p + 1 → p < length xs → drop p (take k xs) ≡ get_or xs p d ∷ []
  ends_there p k [] d is within = absurd (omega (arith, within))
  ends_there p zero (x ∷ xs) d is within = absurd (omega (arith, is))
  ends_there zero (suc k) (x ∷ xs) d is within = let none : k ≡ 0 = omega (arith, is) in ap (λ (i : ℕ). x ∷ take i xs) none
  ends_there (suc p) (suc k) (x ∷ xs) d is within = ends_there p k xs d (omega (arith, is)) (omega (arith, within))

  before_it : (p k : ℕ) (xs : List X) → k ≡ p + 1 → take p (take k xs) ≡ take p xs
  before_it zero k xs is = refl
  before_it (suc p) zero xs is = absurd (omega (arith, is))
  before_it (suc p) (suc k) [] is = refl
  before_it (suc p) (suc k) (x ∷ xs) is = ap (λ (ys : List X). x ∷ ys) (before_it p k xs (omega (arith, is)))

  pub brought_is : (p : ℕ) (xs : List X) (d : X) → p < length xs → brought p xs ≡ get_or xs p d ∷ (take p xs ++ drop (p + 1) xs)
  brought_is p xs d within =
      ap (λ (ys : List X). (ys ++ take p (take (p + 1) xs)) ++ drop (p + 1) xs) (ends_there p (p + 1) xs d refl within)
      ∙ ap (λ (ys : List X). get_or xs p d ∷ (ys ++ drop (p + 1) xs)) (before_it p (p + 1) xs refl)

  got : (xs : List X) (p : ℕ) (d : X) → p < length xs → slice_get xs p ≡ Some (get_or xs p d)
  got [] p d within = absurd (omega (arith, within))
  got (x ∷ xs) zero d within = refl
  got (x ∷ xs) (suc p) d within = got xs p d (omega (arith, within))

  in_front : (p : ℕ) (xs : List X) → p < length xs → slice_get (brought p xs) 0 ≡ slice_get xs p
  in_front p [] within = absurd (omega (arith, within))
  in_front p (x ∷ xs) within = ap (λ (ys : List X). slice_get ys 0) (brought_is p (x ∷ xs) x within) ∙ sym (got (x ∷ xs) p x within)

  others_behind : (p : ℕ) (xs : List X) → p < length xs → drop 1 (brought p xs) ≡ remove xs p
  others_behind p [] within = absurd (omega (arith, within))
  others_behind p (x ∷ xs) within =
      let next : p + 1 ≡ suc p = omega arith in
      ap (λ (ys : List X). drop 1 ys) (brought_is p (x ∷ xs) x within) ∙ ap (λ (k : ℕ). take p (x ∷ xs) ++ drop k (x ∷ xs)) next

  stands_first : (g : ℕ) (xs ys : List X) → g ≤ length xs → slice_get (take g xs ++ ys) g ≡ slice_get ys 0
  stands_first zero xs ys within = refl
  stands_first (suc g) [] ys within = absurd (omega (arith, within))
  stands_first (suc g) (x ∷ xs) ys within = stands_first g xs ys (omega (arith, within))

  behind_first : (g k : ℕ) (xs ys : List X) → k ≡ g + 1 → g ≤ length xs → drop k (take g xs ++ ys) ≡ drop 1 ys
  behind_first zero k xs ys is within = let one : k ≡ 1 = omega (arith, is) in ap (λ (i : ℕ). drop i ys) one
  behind_first (suc g) zero xs ys is within = absurd (omega (arith, is))
  behind_first (suc g) (suc k) [] ys is within = absurd (omega (arith, within))
  behind_first (suc g) (suc k) (x ∷ xs) ys is within = behind_first g k xs ys (omega (arith, is)) (omega (arith, within))

  module _ (g p : ℕ) (xs : List X) (within : g + p < length xs) where
    inside : p < length (drop g xs)
    inside = omega (arith, within, length-drop g xs)

    pub brought_stands : slice_get (take g xs ++ brought p (drop g xs)) g ≡ slice_get (drop g xs) p
    brought_stands = stands_first g xs (brought p (drop g xs)) (omega (arith, within)) ∙ in_front p (drop g xs) inside

    pub brought_goes : drop (g + 1) (take g xs ++ brought p (drop g xs)) ≡ remove (drop g xs) p
    brought_goes = behind_first g (g + 1) xs (brought p (drop g xs)) refl (omega (arith, within)) ∙ others_behind p (drop g xs) inside

-- what is read of it
pub brought_map : {X Y : Type 0} (f : X → Y) (p : ℕ) (xs : List X) → map f (brought p xs) ≡ brought p (map f xs)
brought_map f p xs =
    let front = take (p + 1) xs in
    map-append f (drop p front ++ take p front) (drop (p + 1) xs)
    ∙ ap (λ ys. ys ++ map f (drop (p + 1) xs)) (map-append f (drop p front) (take p front))
    ∙ ap (λ ys. (ys ++ map f (take p front)) ++ map f (drop (p + 1) xs)) (sym (drop-map f p front))
    ∙ ap (λ ys. (drop p (map f front) ++ ys) ++ map f (drop (p + 1) xs)) (sym (take-map f p front))
    ∙ ap (λ ys. (drop p (map f front) ++ take p (map f front)) ++ ys) (sym (drop-map f (p + 1) xs))
    ∙ ap (λ ys. (drop p ys ++ take p ys) ++ drop (p + 1) (map f xs)) (sym (take-map f (p + 1) xs))

pub turned_map : {X Y : Type 0} (f : X → Y) (g p : ℕ) (xs : List X) → map f (take g xs ++ brought p (drop g xs)) ≡ take g (map f xs) ++ brought p (drop g (map f xs))
turned_map f g p xs =
    map-append f (take g xs) (brought p (drop g xs))
    ∙ ap (λ ys. ys ++ map f (brought p (drop g xs))) (sym (take-map f g xs))
    ∙ ap (λ ys. take g (map f xs) ++ ys) (brought_map f p (drop g xs))
    ∙ ap (λ ys. take g (map f xs) ++ brought p ys) (sym (drop-map f g xs))
