use Rattle.std.proofs.Common.{◌≡◌, ◌++◌, map, take}
use Rattle.qm_model.specs.Words.{row_text}
use Rattle.qm_history.specs.Text.{behind}
use Rattle.qm_show.proofs.answer.push_row_texts.Given as goal

-- the rows so far have their lines, behind the count
abbrev pub invariant-loop-row : goal.invariant-loop-row
invariant-loop-row l = l.out.items ≡ l.initial.out.items ++ behind l.front (map row_text (take l.row-index l.rows))
