-- The pages of a text one by one: the lines of the first page, and the text behind it.
use Rattle.std.specs.Prelude.{◌≡◌, ℕ, ◌≤◌, Bool, true, false, if◌then◌else◌, List, [], ◌∷◌, length, flat_map, take, drop}
use Rattle.qm_kinds.specs.declared.form.Shape.{Shape}
use Rattle.qm_model.specs.Pages.{lines, rows, fitted, page_block, text_blocks}
use Rattle.qm_symb.specs.TextParts.{section, others, is_in_section}

-- the lines of a section as they are printed
unfoldable pub printed_lines : Shape → List ℕ → List (List ℕ)
printed_lines shape text = flat_map (fitted shape) (lines text)

-- the lines on the first page of a text
unfoldable pub first_page : Shape → List ℕ → List (List ℕ)
first_page shape text = take (rows shape) (printed_lines shape (section text))

-- The first line that is printed of a text, and the text behind it: the rest of the section, or what stands behind the
-- section where the line is its last one.
pub record IsFirstLine (shape : Shape) (text line rest : List ℕ) (is_last : Bool) : Type 0 where
  pub printed : printed_lines shape (section text) ≡ line ∷ (if is_last then [] else printed_lines shape (section rest))
  pub left : others text ≡ (if is_last then rest else others rest)
  pub inside : is_last ≡ false → is_in_section rest ≡ true

-- so many lines of the first section of a text stand in front of the rest, which begins in that section
pub record IsInFront (shape : Shape) (text rest : List ℕ) (count : ℕ) : Type 0 where
  pub begun : is_in_section text ≡ true
  pub printed : drop count (printed_lines shape (section text)) ≡ printed_lines shape (section rest)
  pub few : count ≤ length (printed_lines shape (section text))
  pub left : others text ≡ others rest
  pub inside : is_in_section rest ≡ true

-- the first page of a text, and the text behind it
pub record IsFirstPage (shape : Shape) (text rest : List ℕ) : Type 0 where
  pub blocks : text_blocks shape text ≡ page_block shape (first_page shape text) ∷ text_blocks shape rest
