-- The lines of a turn, each behind what stands before it.
use Rattle.std.proofs.Common.{◌≡◌, ℕ, Bool, List, ◌++◌, refl, sym, append_assoc}
use Rattle.std.proofs.lemmas.Grind.{flat_map-append}
use Rattle.qm_history.specs.declared.call.Answer.{Answer}
use Rattle.qm_history.specs.declared.turn.Why.{Why}
use Rattle.qm_history.specs.declared.turn.Why.TheVariants as why
use Rattle.qm_history.specs.Text.{answer_lines, behind, first_line_of, line_behind, prefix_of, takeover_lines, told_takeover}
use Rattle.qm_show.specs.Prefix.{prefix_text}
use Rattle.qm_show.specs.Turns.{line_of, told_text}
use Rattle.qm_sjc.specs.Printed.{items_line}

-- what stands before the lines of a turn
prefix_is : (name : List ℕ) (because : Why) → prefix_text name (line_of because) ≡ prefix_of name because
prefix_is name (why.Line line) = refl
prefix_is name why.Fetch = simp append_assoc
prefix_is name why.Report = simp append_assoc
prefix_is name why.Leave = simp append_assoc

-- a takeover, and what the call was answered
pub whole_answer : (front name : List ℕ) (because : Why) (single : Bool) (a : Answer) → front ≡ prefix_text name (line_of because)
    → behind front (takeover_lines (told_takeover a)) ++ behind front (answer_lines items_line (first_line_of because) single a) ≡ told_text name because single a
whole_answer front name because single a is =
    rw (is, prefix_is name because)
    (sym (flat_map-append (line_behind (prefix_of name because)) (takeover_lines (told_takeover a)) (answer_lines items_line (first_line_of because) single a)))
