-- Lists in tiers: rings of one size, one behind the other, and a last piece that isn't a ring.
use Rattle.std.specs.Prelude.{◌≡◌, ℕ, ◌+◌, ◌*◌, ◌<◌, ◌≤◌, List, [], ◌∷◌, ◌++◌, length, take, drop, slice_set, slice_index_or, All}

-- a ring, read from its head
abbrev pub turned : {X : Type 0} → ℕ → List X → List X
turned head xs = drop head xs ++ take head xs

-- the list of tiers of a size: first those that are rings, each with its head
abbrev pub laid : {X : Type 0} → ℕ → List ℕ → List X → List X
laid size [] xs = xs
laid size (head ∷ heads) xs = turned head (take size xs) ++ laid size heads (drop size xs)

-- all full tiers are rings, and the last one isn't full
pub record IsTiered {X : Type 0} (size : ℕ) (heads : List ℕ) (xs : List X) : Type 0 where
  pub full : length heads * size ≤ length xs
  pub last : length xs < length heads * size + size
  pub within : All (λ head. head < size) heads

-- a place in a ring, from its head
pub record IsInRing (size head offset place : ℕ) : Type 0 where
  pub within : place < size
  pub before : head + offset < size → place ≡ head + offset
  pub behind : size ≤ head + offset → place + size ≡ head + offset

-- the place of the ring in front of a head
pub record IsInFront (size head place : ℕ) : Type 0 where
  pub within : place < size
  pub first : head ≡ 0 → place + 1 ≡ size
  pub later : 0 < head → place + 1 ≡ head

-- what stands at a place of the list stands at another one of what is kept
pub record IsSlot (X : Type 0) (size : ℕ) (heads : List ℕ) (place slot : ℕ) : Type 0 where
  pub within : slot < length heads * size
  pub reads : (xs : List X) (d : X) → length heads * size ≤ length xs
      → slice_index_or (laid size heads xs) place d ≡ slice_index_or xs slot d
  pub writes : (xs : List X) (x : X) → length heads * size ≤ length xs
      → laid size heads (slice_set xs slot x) ≡ slice_set (laid size heads xs) place x

-- so many places, one behind the other, stand at slots one behind the other
abbrev pub AreSlots : Type 0 → ℕ → List ℕ → ℕ → ℕ → ℕ → Type 0
AreSlots X size heads place slot count = (k : ℕ) → k < count → IsSlot X size heads (place + k) (slot + k)

-- a list that is kept in tiers, and for how many elements there is room
pub record Tiered (X : Type 0) : Type 0 where
  pub list : List X
  pub capacity : ℕ
