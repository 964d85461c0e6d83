-- The lines of a script of a cluster, without where they lie in memory.
use Rattle.std.specs.Prelude.{◌≡◌, ℕ, List, map, Option, Result, Ok, Err, IsOk}
use Rattle.qm_history.specs.Lines.{LineFault}
use Rattle.qm_history.specs.Script.{LineSort, Command, Items, Act, UserLine}
use Rattle.qm_script.specs.declared.lines.LineSort.{LineSort as CodeSort}
use Rattle.qm_script.specs.declared.lines.LineSort.TheVariants as code
use Rattle.qm_script.specs.declared.lines.UserLine.{UserLine as CodeLine}
use Rattle.qm_script.specs.declared.lines.LinesEnd.{LinesEnd}
use Rattle.qm_script.specs.declared.lines.LinesEnd.TheVariants.{Fault, NoMemory}
use Rattle.qm_script.specs.Extents.{joined}

abbrev pub line_sort_view : CodeSort → LineSort
line_sort_view code.Command = Command
line_sort_view code.Items = Items
line_sort_view code.Act = Act

-- a command is kept as it stands in the script, and goes on behind each `-` and line feed
abbrev pub whole : LineSort → List ℕ → List ℕ
whole Command text = joined text
whole Items text = text
whole Act text = text

abbrev pub user_line_view : CodeLine → UserLine
user_line_view l = record {
  line = record { number = l.number; node = l.node; sort = line_sort_view l.sort; text = whole (line_sort_view l.sort) l.text.now };
  user = l.user;
}

abbrev pub user_lines_view : List CodeLine → List UserLine
user_lines_view = map user_line_view

-- what was read, seen by view, is the script; or it is none, and this is its first fault; or it is one, for which memory ran out
abbrev pub ReadsLines : {X : Type 0} → (X → List UserLine) → Result (List UserLine) LineFault → Result X LinesEnd → Type 0
ReadsLines view script (Ok lines) = script ≡ Ok (view lines)
ReadsLines view script (Err (Fault line kind)) = script ≡ Err (record { line = line; kind = kind })
ReadsLines view script (Err NoMemory) = IsOk script
