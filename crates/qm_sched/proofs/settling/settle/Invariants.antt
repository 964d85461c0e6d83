use Rattle.std.proofs.Common.{◌≡◌, ◌+◌, ◌-◌, length, vec_capacity}
use Rattle.qm_sched.specs.Choosing.{execution_queues}
use Rattle.qm_sched.proofs.ByPlace.{Reached}
use Rattle.qm_sched.proofs.settling.settle.Given as goal

abbrev pub invariant-loop-place : goal.invariant-loop-place
invariant-loop-place g l =
    record {
      reached : Reached l.fn.parts l.parts l.out.items l.place l.looks (l.fn.looks + length l.out.items + execution_queues l.fn.parts.queues);
      runs : l.parts.spare_runs + length l.out.items ≡ l.fn.parts.spare_runs;
      capacity : vec_capacity l.out ≡ vec_capacity l.fn.out;
      rest : l.parts ≡ record l.fn.parts { entries = l.parts.entries; next_run = l.parts.next_run; spare_runs = l.parts.spare_runs };
    }

-- a start takes room for a run, and a queue that starts nothing is passed
abbrev pub decreases-loop-place : goal.decreases-loop-place
decreases-loop-place g l = l.parts.spare_runs + (length l.parts.queues - l.place)
