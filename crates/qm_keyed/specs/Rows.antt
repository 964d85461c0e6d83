-- The rows of a table: what its callers see.
use Rattle.std.specs.Prelude.{◌≡◌, ℕ, Bool, not, List, filter, slice_set, slice_index_or}
use Rattle.qm_model.specs.Inserting.{inserted}

-- the rows in order of their keys, and how many more have room
pub record Rows (X : Type 0) : Type 0 where
  pub rows : List X
  pub spare : ℕ

-- the rows with this one in its place, where it takes the place of any other of its key
abbrev pub with_row : {X K : Type 0} → (K → X → Bool) → (K → X → Bool) → (X → K) → X → List X → List X
with_row has follows key x rows = inserted (λ a b. follows (key a) b) x (filter (λ y. not (has (key x) y)) rows)

-- what stands at a place is changed, and nothing else
abbrev pub ChangesAt : {X : Type 0} → (X → X) → List X → List X → ℕ → Type 0
ChangesAt {X} change old new place = (any : X) → new ≡ slice_set old place (change (slice_index_or old place any))
