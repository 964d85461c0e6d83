-- Where a batch run is in its text.
use Rattle.std.specs.Prelude.{◌≡◌, ◌==◌, ◌+◌, ◌-◌, ◌<◌, ◌≤◌, ℕ, Bool, List, ◌∷◌, length, drop}
use Rattle.qm_model.specs.Common.{Work, Place, lines}
use Rattle.qm_symb.specs.declared.batch.cursor.Cursor.{Cursor}

-- a byte that ends a line
abbrev pub is_line_feed : ℕ → Bool
is_line_feed b = b == 10

-- a cursor in front of a line of a text, or behind the last one: behind it are all lines but those in front of it
pub record IsInText (text : List ℕ) (c : Cursor) : Type 0 where
  pub behind : lines (drop c.byte text) ≡ drop c.line (lines text)
  pub inside : c.byte ≤ length text
  pub few : c.line ≤ c.byte

-- the line at a cursor, and the cursor behind it
pub record IsLineAt (text : List ℕ) (c : Cursor) (line : List ℕ) (next : Cursor) : Type 0 where
  pub first : drop c.line (lines text) ≡ line ∷ drop next.line (lines text)
  pub count : next.line ≡ c.line + 1
  pub moves : c.byte < next.byte
  pub no_longer : length line ≤ length text
  pub in_text : IsInText text next

-- a cursor in front of the line that a place numbers, or behind the last one
pub record Stands (w : Work) (p : Place) (c : Cursor) : Type 0 where
  pub line : c.line ≡ p.at - 1
  pub in_text : IsInText w.text c
