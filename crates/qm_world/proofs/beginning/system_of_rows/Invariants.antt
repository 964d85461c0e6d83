use Rattle.std.proofs.Common.{◌≡◌, take}
use Rattle.qm_model.specs.Folding.{no_system, replayed}
use Rattle.qm_world.proofs.beginning.system_of_rows.Given as goal

abbrev pub invariant-loop-row : goal.invariant-loop-row
invariant-loop-row l = l.system ≡ replayed no_system (take l.row-index l.rows)
