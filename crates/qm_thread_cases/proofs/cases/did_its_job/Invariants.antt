use Rattle.std.proofs.Common.{◌≤◌}
use Rattle.qm_thread_cases.proofs.cases.did_its_job.Given as goal

-- so many turns of the node were as they are to be
abbrev pub invariant-loop-turn : goal.invariant-loop-turn
invariant-loop-turn l = l.at ≤ 4
