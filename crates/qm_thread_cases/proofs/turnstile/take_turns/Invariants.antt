use Rattle.std.proofs.Common.{◌≡◌}
use Rattle.qm_thread_cases.proofs.turnstile.take_turns.Given as goal

abbrev pub invariant-loop-turn : goal.invariant-loop-turn
invariant-loop-turn g l = (l.pass.place ≡ l.initial.pass.place) × (l.pass.number ≡ l.initial.pass.number)
