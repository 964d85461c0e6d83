use Rattle.std.proofs.Common.{◌+◌, ◌-◌, ◌*◌, length}
use Rattle.qm_turn.proofs.each.+halves.Given as goal

abbrev pub decreases-work_on_each : goal.decreases-work_on_each
decreases-work_on_each g l = 4 * length l.firsts.now

abbrev pub decreases-work_on_halves : goal.decreases-work_on_halves
decreases-work_on_halves g l = 4 * (length l.low.now + length l.high.now) - 1

abbrev pub decreases-work_on_halves-front : goal.decreases-work_on_halves-front
decreases-work_on_halves-front g l = 4 * length l.low.now + 1

abbrev pub decreases-work_on_halves-back : goal.decreases-work_on_halves-back
decreases-work_on_halves-back g l = 4 * length l.high.now + 1
