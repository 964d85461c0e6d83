use Rattle.std.proofs.Common.{◌≡◌, drop, find}
use Rattle.qm_rules.specs.Naming.{queue_names}
use Rattle.qm_rules.proofs.naming.refused_by_queue.Given as goal

-- the queue is among those that are left, if anywhere
abbrev pub invariant-loop-queue : goal.invariant-loop-queue
invariant-loop-queue l = find (queue_names l.named) (drop l.queue-index l.queues) ≡ find (queue_names l.named) l.queues
