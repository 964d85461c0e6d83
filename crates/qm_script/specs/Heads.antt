-- What stands in front of the text of a line.
use Rattle.std.specs.Prelude.{◌≡◌, ℕ, List, [], ◌++◌, Result, Ok, Err, Option, None, Some, option_map, option_to_list}
use Rattle.std.specs.Borrow.{Bor}
use Rattle.qm_history.specs.Lines.{LineFault, lines_from}
use Rattle.qm_history.specs.Common.{LineSort, UserLine, ScriptKind}
use Rattle.qm_script.specs.declared.lines.Head.{Head}
use Rattle.qm_script.specs.declared.lines.LineSort.{LineSort as CodeSort}
use Rattle.qm_script.specs.declared.lines.Taken.{Taken}
use Rattle.qm_script.specs.ClusterLines.{line_sort_view, user_line_view}
use Rattle.qm_script.specs.Extents.{parts_of}

-- a line of this head, the number of which isn't known
abbrev pub head_view : Head → UserLine
head_view h = record { line = record { number = 0; node = h.node; sort = line_sort_view h.sort; text = h.text.now }; user = h.user }

-- a sort and a text
abbrev pub sorted_view : CodeSort × Bor (List ℕ) → LineSort × List ℕ
sorted_view parts = (line_sort_view parts.0, parts.1.now)

-- lines, and those behind them; or what is wrong behind them
abbrev pub behind_lines : List UserLine → Result (List UserLine) LineFault → Result (List UserLine) LineFault
behind_lines lines (Ok others) = Ok (lines ++ others)
behind_lines lines (Err f) = Err f

-- the script is this line, or an empty one, and those of the rest; or this is its first fault
abbrev pub TakesLine : Option (List (List ℕ)) → ℕ → List ℕ → Result Taken ScriptKind → Type 0
TakesLine names number script (Ok taken) =
    lines_from names None number (parts_of script)
    ≡ behind_lines (option_to_list (option_map user_line_view taken.line)) (lines_from names None taken.next (parts_of taken.rest.now))
TakesLine names number script (Err kind) = lines_from names None number (parts_of script) ≡ Err (record { line = number; kind = kind })

-- the script has no line left; or there is a first line, or a first fault
abbrev pub TakesNext : Option (List (List ℕ)) → ℕ → List ℕ → Option (Result Taken ScriptKind) → Type 0
TakesNext names number script None = lines_from names None number (parts_of script) ≡ Ok []
TakesNext names number script (Some step) = TakesLine names number script step
