-- Rows in order of a key, and where the row of a key stands among them.
use Rattle.std.specs.Prelude.{◌≡◌, ◌<◌, ◌≤◌, ◌+◌, ℕ, List, length, find, Option, Result, Ok, Err}
use Rattle.std.specs.Ordering.{is_eq}
use Rattle.std.specs.List.{AllWithin, HoldsAt}
use Rattle.std.specs.declared.cmp.Ordering.{Ordering}
use Rattle.std.specs.declared.cmp.Ordering.TheVariants.{Less, Equal, Greater}

-- the row of the key stands at this place: those before it have lesser keys, and those behind it greater ones
pub record StandsAt {X K : Type 0} (cmp : K → K → Ordering) (key : X → K) (wanted : K) (rows : List X) (place : ℕ) : Type 0 where
  pub within : place < length rows
  pub before : AllWithin (λ row. cmp (key row) wanted ≡ Less) rows 0 place
  pub here : HoldsAt (λ row. cmp (key row) wanted ≡ Equal) rows place
  pub behind : AllWithin (λ row. cmp (key row) wanted ≡ Greater) rows (place + 1) (length rows)

-- no row has the key, and one that had it would belong at this place
pub record BelongsAt {X K : Type 0} (cmp : K → K → Ordering) (key : X → K) (wanted : K) (rows : List X) (place : ℕ) : Type 0 where
  pub within : place ≤ length rows
  pub before : AllWithin (λ row. cmp (key row) wanted ≡ Less) rows 0 place
  pub behind : AllWithin (λ row. cmp (key row) wanted ≡ Greater) rows place (length rows)

-- what a search for a key answers: where its row stands, or where one would belong
abbrev pub IsPlace : {X K : Type 0} → (K → K → Ordering) → (X → K) → K → List X → Result ℕ ℕ → Type 0
IsPlace cmp key wanted rows (Ok place) = StandsAt cmp key wanted rows place
IsPlace cmp key wanted rows (Err place) = BelongsAt cmp key wanted rows place

-- the first row that has the key, if there is one
abbrev pub row_of : {X K : Type 0} → (K → K → Ordering) → (X → K) → K → List X → Option X
row_of cmp key wanted rows = find (λ row. is_eq (cmp (key row) wanted)) rows
