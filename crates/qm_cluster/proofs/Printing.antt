-- What is printed of a turn, by the call that it served and its answer.
use Rattle.std.proofs.Common.{◌≡◌, ℕ, List, ◌++◌, sym, ◌∙◌, ap}
use Rattle.qm_sjc.specs.Printed.{items_line}
use Rattle.qm_history.specs.declared.call.Answer.{Answer}
use Rattle.qm_history.specs.declared.call.Call.{Call}
use Rattle.qm_history.specs.declared.turn.Turn.{Turn}
use Rattle.qm_history.specs.declared.turn.Why.{Why}
use Rattle.qm_history.specs.declared.world.World.{World}
use Rattle.qm_history.specs.Common.{answer_of, why_of, IsTurnOf}
use Rattle.qm_history.specs.Text.{answer_lines, behind, first_line_of, prefix_of, takeover_lines, told_takeover, turn_lines}
use Rattle.qm_scans.specs.Behind.{is_single, step_of}
use Rattle.qm_scans.proofs.Tells.{turn_tells}
use Rattle.qm_show.specs.Turns.{told_text}
use Rattle.qm_node.specs.Answered.{printed_of}

module _ (w : World) (asked : Call) (t : Turn) (turn : IsTurnOf w asked t) where
  -- a row is printed as its items just where the call asks for one
  lines_told : turn_lines items_line w t ≡ takeover_lines (told_takeover (answer_of w t)) ++ answer_lines items_line (first_line_of t.why) (is_single (step_of asked)) (answer_of w t)
  lines_told = ap (λ (lines : List (List ℕ)). takeover_lines (told_takeover (answer_of w t)) ++ lines) ((turn_tells w asked t turn).rows items_line (first_line_of t.why))

  pub lines_printed : (name : List ℕ) (told : Answer) → t.why ≡ why_of asked → told ≡ answer_of w t → behind (prefix_of name t.why) (turn_lines items_line w t) ≡ printed_of name asked told
  lines_printed name told because is =
      ap (λ (lines : List (List ℕ)). behind (prefix_of name t.why) lines) lines_told
      ∙ ap (λ (b : Why). told_text name b (is_single (step_of asked)) (answer_of w t)) because
      ∙ ap (λ (r : Answer). printed_of name asked r) (sym is)
