-- What is printed behind the turns of nodes.
-- This site's own: the texts of nodes in the cluster's order, and whose turn each was.
use Rattle.std.specs.Prelude.{◌≡◌, ℕ, List, [], ◌∷◌, ◌++◌, codes, flat_map, slice_get, Option, Result, Ok, Err, unwrap_or}
use Rattle.std.specs.Io.KnownBytes.{Appends}
use Rattle.qm_node.specs.Ends.{TakesFront}
use Rattle.qm_disk.specs.Faults.{counted}
use Rattle.qm_history.specs.declared.turn.Turn.{Turn}

-- a node's name
abbrev pub name_at : List (List ℕ) → ℕ → List ℕ
name_at names node = unwrap_or (slice_get names node) []

-- the names of the nodes whose turns these are, each behind a blank
abbrev pub words_of : List (List ℕ) → List Turn → List ℕ
words_of names turns = flat_map (λ (t : Turn). codes " " ++ name_at names t.node) turns

-- the last line
abbrev pub turns_line : List (List ℕ) → List Turn → List ℕ
turns_line names turns = codes "turns:" ++ words_of names turns ++ 10 ∷ []

-- the sink took the text; or it failed, which it counts, and took a beginning of it
abbrev pub Writes : {E T : Type 0} → Result T E → Option (List ℕ) → Option (List ℕ) → ℕ → ℕ → List ℕ → Type 0
Writes (Ok done) old new before now text = Appends old new text × (now ≡ before)
Writes (Err failed) old new before now text = TakesFront old new text × (now ≡ counted before)
