use Rattle.std.proofs.Common.{◌≡◌, ◌++◌, flat_map, map, take}
use Rattle.qm_model.specs.Words.{row_text}
use Rattle.qm_history.specs.Text.{behind}
use Rattle.qm_show.proofs.answer.push_rows.Given as goal

-- the parts so far have their lines, behind the count
abbrev pub invariant-loop-part : goal.invariant-loop-part
invariant-loop-part l = l.out.items ≡ l.initial.out.items ++ behind l.front (map row_text (flat_map (λ part. part) (take l.part-index l.part-items)))
