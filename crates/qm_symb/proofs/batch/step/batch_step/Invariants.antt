use Rattle.std.proofs.Common.{◌≡◌, ◌<◌, length, vec_capacity}
use Rattle.qm_symb.specs.BatchCursors.{IsInText}
use Rattle.qm_symb.proofs.CourseLemmas.{Passed, steps_from}
use Rattle.qm_symb.proofs.batch.step.batch_step.Given as goal

-- so much of the course is passed, and the cursor stands in front of the rest
abbrev pub invariant-loop-used : goal.invariant-loop-used
invariant-loop-used g l = record {
  same : l.cursor ≡ l.initial.cursor;
  in_text : IsInText l.work.text l.here;
  room : length l.work.text < vec_capacity l.block;
  passed : Passed g.P.Device.meaning l.work l.fn.at (steps_from l.work l.used l.here.line) l.initial.device l.device;
}
