use Rattle.std.proofs.Common.{◌++◌, List, ℕ, ap}
use Rattle.qm_history.specs.Course.{answered}
use Rattle.qm_history.specs.Text.{first_line_of, takeover_lines, told_takeover}
use Rattle.qm_scans.proofs.Tells.{turn_tells}
use Rattle.qm_scans.proofs.laws.answers_tell_how_rows_are_printed.Goals as goal

pub returns : goal.returns
returns c = λ items_line v asked turn.
    ap (λ (l : List (List ℕ)). takeover_lines (told_takeover (answered v)) ++ l)
    ((turn_tells v.before asked v.turn turn).rows items_line (first_line_of v.turn.why))
