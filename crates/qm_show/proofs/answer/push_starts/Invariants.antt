use Rattle.std.proofs.Common.{◌≡◌, ◌++◌, map, take}
use Rattle.qm_model.specs.Words.{start_text}
use Rattle.qm_history.specs.Text.{behind}
use Rattle.qm_show.proofs.answer.push_starts.Given as goal

-- the jobs so far have their lines
abbrev pub invariant-loop-start : goal.invariant-loop-start
invariant-loop-start l = l.out.items ≡ l.initial.out.items ++ behind l.front (map start_text (take l.start-index l.starts))
