use Rattle.std.proofs.Common.{◌≡◌}
use Rattle.qm_scan.proofs.all.parts_of.Given as goal

abbrev pub invariant-loop-group : goal.invariant-loop-group
invariant-loop-group l = l.parts.items ≡ l.yielded
