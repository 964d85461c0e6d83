-- A script whole: lines of users, commands that go on in the next line, item lists, and which fault is told.
-- OpenVMS User's Manual, on command procedures and continued lines; DCL Dictionary, SUBMIT, /USER. This site's own: the form.
use Rattle.std.specs.Prelude.{ℕ, nat_eq, ◌==◌, ◌+◌, nat_lt, Bool, true, false, if◌then◌else◌, List, [], ◌∷◌, ◌++◌, length, take, position, ◌-◌, Option, None, Some, Result, Ok, Err, option_map, option_and_then}
use Rattle.std.specs.List.{list_all, slice_split, ends_with}
use Rattle.qm_model.specs.Common.{name_of, system_user, ScriptKind, is_among, is_line_byte, node_name_of, cut_at, cut_at_blank}
use Rattle.qm_kinds.specs.declared.script.ScriptKind.TheVariants as wrong
use Rattle.qm_history.specs.Script.{LineSort, Command, Items, Act, UserLine}

-- a line of a script at which it isn't one, and what is wrong; 0 stands for the script as a whole
pub record LineFault : Type 0 where
  pub line : ℕ
  pub kind : ScriptKind

-- the node and the user in front of a line; SYSTEM asks where no user is named
abbrev pub asker_from : List ℕ → Option (List ℕ × List ℕ) → Option (List ℕ × List ℕ)
asker_from text None = option_map (λ (node : List ℕ). (node, system_user)) (node_name_of text)
asker_from text (Some parts) =
    option_and_then (λ (node : List ℕ). option_map (λ (user : List ℕ). (node, user)) (name_of parts.1)) (node_name_of parts.0)

abbrev pub asker_of : List ℕ → Option (List ℕ × List ℕ)
asker_of text = asker_from text (cut_at (position (λ (b : ℕ). b == 58) text) text)

-- `$` for a command, `#` for an item list and `!` for an act
abbrev pub sort_of : ℕ → Option LineSort
sort_of mark = if mark == 36 then Some Command else if mark == 35 then Some Items else if mark == 33 then Some Act else None

-- the sort, a blank and the rest
abbrev pub sorted : List ℕ → Option (LineSort × List ℕ)
sorted [] = None
sorted (mark ∷ []) = None
sorted (mark ∷ blank ∷ text) = if blank == 32 then option_map (λ (sort : LineSort). (sort, text)) (sort_of mark) else None

-- a line of these parts
abbrev pub line_made : ℕ → List ℕ × List ℕ → LineSort × List ℕ → UserLine
line_made number asker rest = record { line = record { number = number; node = asker.0; sort = rest.0; text = rest.1 }; user = asker.1 }

abbrev pub line_from : ℕ → Option (List ℕ × List ℕ) → Option UserLine
line_from number None = None
line_from number (Some parts) =
    option_and_then (λ (asker : List ℕ × List ℕ). option_map (line_made number asker) (sorted parts.1)) (asker_of parts.0)

-- the node is in the cluster, or no cluster is known
abbrev pub may_be_of : Option (List (List ℕ)) → List ℕ → Bool
may_be_of None node = true
may_be_of (Some names) node = is_among names node

-- a line whose node may be in the cluster
abbrev pub of_cluster : Option (List (List ℕ)) → ℕ → Option UserLine → Result UserLine LineFault
of_cluster names number None = Err (record { line = number; kind = wrong.Form })
of_cluster names number (Some l) = if may_be_of names l.line.node then Ok l else Err (record { line = number; kind = wrong.Node })

-- the line that a text is, or what is wrong with it: a byte, its form, or its node
abbrev pub line_of : Option (List (List ℕ)) → ℕ → List ℕ → Result UserLine LineFault
line_of names number text =
    if list_all is_line_byte text then of_cluster names number (line_from number (cut_at_blank text)) else
    Err (record { line = number; kind = wrong.Byte })

-- a command that ends in `-` goes on
abbrev pub ends_open : LineSort → List ℕ → Bool
ends_open Command text = ends_with nat_eq text (45 ∷ [])
ends_open Items text = false
ends_open Act text = false

abbrev pub is_to_go_on : Option UserLine → Bool
is_to_go_on None = false
is_to_go_on (Some l) = ends_open l.line.sort l.line.text

abbrev pub goes_on : List ℕ → Bool
goes_on text = is_to_go_on (line_from 0 (cut_at_blank text))

-- the text without its last byte
abbrev pub without_last : List ℕ → List ℕ
without_last text = take (length text - 1) text

-- the first fault counts
abbrev pub one_more : Result UserLine LineFault → Result (List UserLine) LineFault → Result (List UserLine) LineFault
one_more (Err f) lines = Err f
one_more (Ok l) (Err f) = Err f
one_more (Ok l) (Ok lines) = Ok (l ∷ lines)

-- a line behind which the script ends too early; what else is wrong with it counts before that
abbrev pub cut_short : ℕ → Result UserLine LineFault → Result (List UserLine) LineFault
cut_short number (Err f) = Err f
cut_short number (Ok l) = Err (record { line = number; kind = wrong.End })

-- the lines of the parts between line feeds, of which the last has to be empty; of a command that goes on, the number of its first
-- part and its text so far are given. It goes on where the part itself ends in `-`; an empty one ends it
abbrev pub lines_from : Option (List (List ℕ)) → Option (ℕ × List ℕ) → ℕ → List (List ℕ) → Result (List UserLine) LineFault
lines_from names begun number [] = Ok []
lines_from names None number (part ∷ []) = if length part == 0 then Ok [] else cut_short number (line_of names number part)
lines_from names (Some begun) number (part ∷ []) = cut_short begun.0 (line_of names begun.0 (begun.1 ++ part))
lines_from names None number (part ∷ next ∷ parts) =
    if length part == 0 then lines_from names None (number + 1) (next ∷ parts) else
    if goes_on part then lines_from names (Some (number, without_last part)) (number + 1) (next ∷ parts) else
    one_more (line_of names number part) (lines_from names None (number + 1) (next ∷ parts))
lines_from names (Some begun) number (part ∷ next ∷ parts) =
    if ends_with nat_eq part (45 ∷ []) then lines_from names (Some (begun.0, without_last (begun.1 ++ part))) (number + 1) (next ∷ parts) else
    one_more (line_of names begun.0 (begun.1 ++ part)) (lines_from names None (number + 1) (next ∷ parts))

-- the most bytes of a script
abbrev pub script_bytes : ℕ
script_bytes = 16777216

-- The lines of a script for a cluster of these nodes, or the least line that is none and what is wrong with it. Where the files
-- can't be read, no cluster is known, and no node is asked for.
abbrev pub script_lines : Option (List (List ℕ)) → List ℕ → Result (List UserLine) LineFault
script_lines names bytes =
    if nat_lt script_bytes (length bytes) then Err (record { line = 0; kind = wrong.Long }) else
    lines_from names None 1 (slice_split (λ (b : ℕ). b == 10) bytes)
