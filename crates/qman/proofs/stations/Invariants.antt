use Rattle.std.proofs.Common.{◌≡◌, length}
use Rattle.qman.proofs.stations.Given as goal

abbrev pub invariant-loop : goal.invariant-loop
invariant-loop l = length l.stations.items ≡ l.counter
