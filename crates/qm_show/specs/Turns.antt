-- The lines of a turn, and what stands before them.
use Rattle.std.specs.Prelude.{ℕ, Bool, List, ◌++◌, Option, None, Some}
use Rattle.qm_sjc.specs.Printed.{items_line}
use Rattle.qm_history.specs.declared.call.Answer.{Answer}
use Rattle.qm_history.specs.declared.turn.Why.{Why}
use Rattle.qm_history.specs.declared.turn.Why.TheVariants as why
use Rattle.qm_history.specs.Text.{answer_lines, behind, first_line_of, prefix_of, takeover_lines, told_takeover}

-- the script's line for which a turn is made, if it is made for one
abbrev pub line_of : Why → Option ℕ
line_of (why.Line line) = Some line
line_of why.Fetch = None
line_of why.Report = None
line_of why.Leave = None

-- what is printed of a turn: its takeover, and its answer, where the call asked for one row by an item list or didn't
abbrev pub told_text : List ℕ → Why → Bool → Answer → List ℕ
told_text name because single a =
    behind (prefix_of name because) (takeover_lines (told_takeover a) ++ answer_lines items_line (first_line_of because) single a)
