-- The lines of a transcript.
-- DCL Dictionary, SUBMIT, PRINT and SHOW QUEUE, on what they display.
-- This site's own: the layout of a transcript.
use Rattle.std.specs.Prelude.{ℕ, List, [], ◌∷◌, ◌++◌, length, map, decimal, codes, Option, None, Some}
use Rattle.qm_kinds.specs.declared.query.Row.{Row}
use Rattle.qm_kinds.specs.declared.reply.Reply.{Reply}
use Rattle.qm_model.specs.Words.{act_text, start_text, row_text}

-- what is printed of a reply: what was done, and each start
abbrev pub reply_lines : Reply → List (List ℕ)
reply_lines reply = act_text reply.act ∷ map start_text reply.started

-- what is printed of a listing: how many rows, and each row
abbrev pub row_lines : List Row → List (List ℕ)
row_lines rows = (codes "rows: " ++ decimal (length rows)) ∷ map row_text rows

-- what is printed of the runs that a node is shown: how many
abbrev pub runs_line : ℕ → List ℕ
runs_line count = codes "runs: " ++ decimal count

-- what a line is answered whose record has no room in the queue file
abbrev pub full_line : ℕ → ℕ → List ℕ
full_line need cap = codes "%QMAN-E-FULL, need " ++ decimal need ++ codes ", cap " ++ decimal cap

-- what a line is answered at which the disk failed
abbrev pub journal_line : List ℕ
journal_line = codes "%QMAN-F-JOURNAL"

-- the number of the script's line, or - where a node asked of itself
abbrev pub number_text : Option ℕ → List ℕ
number_text (Some number) = decimal number
number_text None = codes "-"

-- a line of the transcript: the node, the number of the script's line or -, and the text
abbrev pub turn_text : List ℕ → Option ℕ → List ℕ → List ℕ
turn_text node number text = node ++ codes " " ++ number_text number ++ codes ": " ++ text ++ 10 ∷ []
