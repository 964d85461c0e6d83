use Rattle.std.proofs.Common.{◌≡◌}
use Rattle.qm_tables.proofs.QueueNames.{kept_as}
use Rattle.qm_parts.proofs.Stops.{mixed}
use Rattle.qm_parts.proofs.queues.stop_unused.Given as goal

-- the queues so far are stopped, where they are to be
abbrev pub invariant-loop-place : goal.invariant-loop-place
invariant-loop-place l = l.queues ≡ kept_as (mixed l.runs.runs l.place l.initial.queues.queues) l.initial.queues.spare
