-- The history of a turnstile: its turns in their order, each the number of its pass and its note.
use Rattle.std.specs.Prelude.{◌≡◌, ℕ, ◌+◌, ◌==◌, List, [], ◌∷◌, ◌++◌, map, if◌then◌else◌}

-- the notes of all turns, in order
abbrev pub notes : {N : Type 0} → List (ℕ × N) → List N
notes log = map (λ e. e.1) log

-- the note of a turn, where the pass with this number made it
abbrev pub note_by : {N : Type 0} → ℕ → ℕ × N → List N
note_by number turn = if turn.0 == number then turn.1 ∷ [] else []

-- the notes of the turns of the pass with this number, in order
abbrev pub notes_by : {N : Type 0} → ℕ → List (ℕ × N) → List N
notes_by number [] = []
notes_by number (turn ∷ log) = note_by number turn ++ notes_by number log

-- in the history these numbers have just these notes
abbrev pub Agrees : {N : Type 0} → List (ℕ × N) → List (ℕ × List N) → Type 0
Agrees log [] = Unit {0}
Agrees log (pair ∷ pairs) = (notes_by pair.0 log ≡ pair.1) × Agrees log pairs

-- the numbers of such pairs
abbrev pub numbers_of : {N : Type 0} → List (ℕ × List N) → List ℕ
numbers_of pairs = map (λ pair. pair.0) pairs

-- how often a number stands in the list
abbrev pub times : ℕ → List ℕ → ℕ
times number [] = 0
times number (n ∷ ns) = (if n == number then 1 else 0) + times number ns
