-- How far the text of a command goes, which may go on in the next line.
use Rattle.std.specs.Prelude.{◌≡◌, ℕ, ◌+◌, ◌==◌, ◌<◌, ◌≤◌, Bool, true, false, ◌&&◌, if◌then◌else◌, List, [], ◌∷◌, ◌++◌, length, Option, None, Some, Result}
use Rattle.std.specs.List.{list_any, slice_split}
use Rattle.qm_history.specs.Lines.{LineFault, cut_short, line_of, lines_from, one_more}
use Rattle.qm_history.specs.Script.{LineSort, Command, Items, Act, UserLine}
use Rattle.qm_script.specs.declared.extent.Extent.{Extent}

-- the parts between line feeds
abbrev pub parts_of : List ℕ → List (List ℕ)
parts_of text = slice_split (λ (b : ℕ). b == 10) text

-- a text without each `-` and line feed that stand one behind the other
abbrev pub joined : List ℕ → List ℕ
joined [] = []
joined (b ∷ []) = b ∷ []
joined (b ∷ next ∷ rest) = if b == 45 && next == 10 then joined rest else b ∷ joined (next ∷ rest)

-- the line of this text, and those of the rest behind the line feed that ends it; or the script ends within the line
abbrev pub lines_with : Option (List (List ℕ)) → ℕ → List ℕ → ℕ → Bool → List ℕ → Result (List UserLine) LineFault
lines_with names number text behind true rest = one_more (line_of names number text) (lines_from names None behind (parts_of rest))
lines_with names number text behind false rest = cut_short number (line_of names number text)

-- the byte ends a line
abbrev pub is_feed : ℕ → Bool
is_feed b = b == 10

-- the text has no line feed; one ends it, and behind that stands the rest of the script, or the script ends with it
abbrev pub CutsFirst : List ℕ → List ℕ → Bool → List ℕ → Type 0
CutsFirst script text true rest = (list_any is_feed text ≡ false) × (script ≡ text ++ 10 ∷ rest)
CutsFirst script text false rest = (list_any is_feed text ≡ false) × (script ≡ text) × (rest ≡ [])

-- the text is the first line of the script
abbrev pub IsFirstLine : List ℕ → Extent → Type 0
IsFirstLine script x = CutsFirst script x.text.now x.is_ended x.rest.now × (x.lines ≡ (if x.is_ended then 1 else 0))

-- Whatever stands in front of it, a command whose text goes on so is the line of its joined text.
abbrev pub GoesOn : List ℕ → Extent → Type 0
GoesOn script x =
    (names : Option (List (List ℕ))) (number at : ℕ) (front : List ℕ)
    → lines_from names (Some (number, front)) at (parts_of script) ≡ lines_with names number (front ++ joined x.text.now) (at + x.lines) x.is_ended x.rest.now

-- The text of a line whose first line and whose text there these are, from that text on: a command may go on, and nothing else.
abbrev pub IsTextOf : LineSort → List ℕ → Extent → List ℕ → Extent → Type 0
IsTextOf Command script first text x = GoesOn script x
IsTextOf Items script first text x = (x.text.now ≡ text) × (x.rest.now ≡ first.rest.now) × (x.lines ≡ first.lines) × (x.is_ended ≡ first.is_ended)
IsTextOf Act script first text x = (x.text.now ≡ text) × (x.rest.now ≡ first.rest.now) × (x.lines ≡ first.lines) × (x.is_ended ≡ first.is_ended)
