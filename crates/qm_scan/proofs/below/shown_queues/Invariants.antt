use Rattle.std.proofs.Common.{◌≡◌, map, take}
use Rattle.qm_scan.specs.Listed.{is_queue_listed}
use Rattle.qm_scan.proofs.below.shown_queues.Given as goal

abbrev pub invariant-loop-queue : goal.invariant-loop-queue
invariant-loop-queue l = l.shown.items ≡ map (is_queue_listed l.query) (take l.queue-index l.queues)
