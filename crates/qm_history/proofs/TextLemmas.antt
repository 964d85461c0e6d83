-- What is printed of a turn is its answer, where it shows no single row.
use Rattle.std.proofs.Common.{◌≡◌, ℕ, Bool, false, List, ◌++◌, refl, ◌∙◌, ap}
use Rattle.qm_history.specs.Common.{Row, node_at, answer_of, Visit, system_in}
use Rattle.qm_history.specs.declared.call.Answer.{Answer}
use Rattle.qm_history.specs.declared.call.Answer.TheVariants as answer
use Rattle.qm_history.specs.Text.{FirstLine, answer_lines, answer_text, behind, first_line_of, is_single, listed_lines, prefix_of, takeover_lines, told_takeover, visit_text}

listed : (items_line : Row → List ℕ) (first : FirstLine) (a : Answer) → answer_lines items_line first false a ≡ listed_lines first a
listed items_line first (answer.Done took moment reply) = refl
listed items_line first _ = refl

pub visit_told : (items_line : Row → List ℕ) (v : Visit) → is_single v.turn.events ≡ false
    → visit_text items_line v ≡ answer_text (node_at v.turn.node (system_in v.before).nodes) v.turn.why (answer_of v.before v.turn)
visit_told items_line v plain =
    let told = answer_of v.before v.turn in
    let whole : List (List ℕ) → List ℕ = λ (lines : List (List ℕ)). behind (prefix_of (node_at v.turn.node (system_in v.before).nodes) v.turn.why) (takeover_lines (told_takeover told) ++ lines) in
    ap (λ (single : Bool). whole (answer_lines items_line (first_line_of v.turn.why) single told)) plain ∙ ap whole (listed items_line (first_line_of v.turn.why) told)
