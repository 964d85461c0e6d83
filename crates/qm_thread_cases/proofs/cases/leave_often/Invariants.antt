use Rattle.std.proofs.Common.{◌≡◌}
use Rattle.qm_thread_cases.proofs.cases.leave_often.Given as goal

abbrev pub invariant-loop-turn : goal.invariant-loop-turn
invariant-loop-turn g l = (l.pass.place ≡ l.initial.pass.place) × (l.pass.number ≡ l.initial.pass.number)
