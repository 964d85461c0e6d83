-- What is left of the bytes of a source, and what a sink took, where those are told.
use Rattle.std.specs.Prelude.{ℕ, ◌<◌, ◌≤◌, List, length, take, Option}
use Rattle.std.specs.Io.KnownBytes.{Appends, Consumes}

-- a source lost at most this many bytes, from the front
abbrev pub LosesAtMost : ℕ → Option (List ℕ) → Option (List ℕ) → Type 0
LosesAtMost most old new = (front : List ℕ) × Consumes old new front × (length front ≤ most)

-- a sink took first bytes of these, and not all
abbrev pub TakesPrefix : Option (List ℕ) → Option (List ℕ) → List ℕ → Type 0
TakesPrefix old new bytes = (count : ℕ) × (count < length bytes) × Appends old new (take count bytes)

-- a sink took first bytes of a piece: none, some or all
abbrev pub TakesSome : Option (List ℕ) → Option (List ℕ) → List ℕ → Type 0
TakesSome old new piece = (count : ℕ) × Appends old new (take count piece)
