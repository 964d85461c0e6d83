use Rattle.std.proofs.Common.{◌≡◌, [], map, take}
use Rattle.qm_scan.specs.Listed.{rows_of_queue}
use Rattle.qm_scan.proofs.below.begun_groups.Given as goal

abbrev pub invariant-loop-queue : goal.invariant-loop-queue
invariant-loop-queue l = l.groups.items ≡ map (rows_of_queue l.query []) (take l.queue-index l.queues)
