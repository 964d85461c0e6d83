use Rattle.std.proofs.Common.{◌≡◌, false, take}
use Rattle.qm_cluster.specs.Ends.{some_disk_failed}
use Rattle.qm_cluster.proofs.ends.some_disk_failed.Given as goal

abbrev pub invariant-turns : goal.invariant-turns
invariant-turns l = some_disk_failed (take l.turn-index l.turns) ≡ false
