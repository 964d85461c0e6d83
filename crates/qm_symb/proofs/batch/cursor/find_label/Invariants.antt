use Rattle.std.proofs.Common.{◌≡◌, ◌-◌, length, drop}
use Rattle.std.specs.List.{position_from}
use Rattle.qm_model.specs.Pages.{lines}
use Rattle.qm_model.specs.Batch.{is_label_line, place_of_label}
use Rattle.qm_symb.specs.BatchCursors.{IsInText}
use Rattle.qm_symb.proofs.batch.cursor.find_label.Given as goal

-- no line in front of the cursor is the label
abbrev pub invariant-loop-found : goal.invariant-loop-found
invariant-loop-found l = record {
  in_text : IsInText l.text l.here;
  searched : place_of_label l.label (lines l.text) ≡ position_from (is_label_line l.label) l.here.line (drop l.here.line (lines l.text));
}

abbrev pub decreases-loop-found : goal.decreases-loop-found
decreases-loop-found l = length l.text - l.here.byte
