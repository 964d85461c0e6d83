-- The blocks of a print job.
-- OpenVMS System Manager's Manual, Setting Up and Maintaining Queues, on forms, margins, page overflow and flag pages; DCL Dictionary, DEFINE/FORM and PRINT.
use Rattle.std.specs.Prelude.{ℕ, ◌+◌, ◌-◌, ◌*◌, ◌/◌, ◌==◌, if◌then◌else◌, List, [], ◌∷◌, ◌++◌, length, map, flat_map, take, drop, replicate, codes, decimal}
use Rattle.std.specs.List.{slice_split, range_with_len, repeat}
use Rattle.qm_kinds.specs.declared.form.Shape.{Shape}
use Rattle.qm_kinds.specs.declared.work.Work.{Work}

-- without the last part, where that is empty
abbrev pub without_empty_end : List (List ℕ) → List (List ℕ)
without_empty_end [] = []
without_empty_end ([] ∷ []) = []
without_empty_end ((b ∷ bs) ∷ []) = (b ∷ bs) ∷ []
without_empty_end (part ∷ next ∷ parts) = part ∷ without_empty_end (next ∷ parts)

-- the parts that a byte ends; behind the last of these bytes a part begins only where something stands there
abbrev pub parts_ended_by : ℕ → List ℕ → List (List ℕ)
parts_ended_by ender text = without_empty_end (slice_split (λ b. b == ender) text)

-- the sections of a text, each without its form feed
abbrev pub sections : List ℕ → List (List ℕ)
sections text = parts_ended_by 12 text

-- the lines of a section, each without its line feed
abbrev pub lines : List ℕ → List (List ℕ)
lines section = parts_ended_by 10 section

-- one of the pieces of so many elements each, of which the last may be shorter
abbrev pub piece : {X : Type 0} → ℕ → List X → ℕ → List X
piece size xs i = take size (drop (i * size) xs)

-- the pieces of a list, one after the other
abbrev pub pieces : {X : Type 0} → ℕ → List X → List (List X)
pieces size xs = map (piece size xs) (range_with_len 0 ((length xs + size - 1) / size))

-- the columns between the margins
abbrev pub columns : Shape → ℕ
columns shape = shape.width - shape.left - shape.right

-- the lines between the margins
abbrev pub rows : Shape → ℕ
rows shape = shape.length - shape.top - shape.bottom

-- a line that goes on in the next lines; an empty one stays one line
abbrev pub wrapped : ℕ → List ℕ → List (List ℕ)
wrapped width [] = [] ∷ []
wrapped width (b ∷ bs) = pieces width (b ∷ bs)

-- what is printed of a line: all of it, cut into lines, or its beginning
abbrev pub fitted : Shape → List ℕ → List (List ℕ)
fitted shape line = if shape.wrap then wrapped (columns shape) line else take (columns shape) line ∷ []

-- the pages of a section, each as its lines; an empty section is one page without lines
abbrev pub section_pages : Shape → List ℕ → List (List (List ℕ))
section_pages shape [] = [] ∷ []
section_pages shape (b ∷ bs) = pieces (rows shape) (flat_map (fitted shape) (lines (b ∷ bs)))

-- blanks at the left, the line and a line feed
abbrev pub line_block : ℕ → List ℕ → List ℕ
line_block left line = replicate left 32 ++ line ++ 10 ∷ []

-- line feeds for the margin at the top, the lines, and a form feed
abbrev pub page_block : Shape → List (List ℕ) → List ℕ
page_block shape page = replicate shape.top 10 ++ flat_map (line_block shape.left) page ++ 12 ∷ []

-- the pages of a text
abbrev pub text_blocks : Shape → List ℕ → List (List ℕ)
text_blocks shape text = map (page_block shape) (flat_map (section_pages shape) (sections text))

-- the flag page names the job and its user
abbrev pub flag_block : Work → List ℕ
flag_block w = codes "ENTRY " ++ decimal w.entry ++ codes " JOB " ++ w.name ++ codes " USER " ++ w.user ++ 10 ∷ 12 ∷ []

-- the flag page, where the job asks for one
abbrev pub flag_blocks : Work → List (List ℕ)
flag_blocks w = if w.flag then flag_block w ∷ [] else []

-- one flag page, and then all pages as often as there are copies
abbrev pub page_blocks : Work → List (List ℕ)
page_blocks w = flag_blocks w ++ repeat w.copies (text_blocks w.shape w.text)
