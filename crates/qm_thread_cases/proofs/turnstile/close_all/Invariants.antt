use Rattle.std.proofs.Common.{◌≡◌, ℕ, ◌<◌, ◌≤◌, ◌+◌, map, vec_len, All}
use Rattle.qm_turn.specs.History.{numbers_of, times}
use Rattle.qm_turn.specs.Turns.{own}
use Rattle.qm_thread_cases.proofs.turnstile.close_all.Given as goal

abbrev pub invariant-loop-worked : goal.invariant-loop-worked
invariant-loop-worked l =
    (l.pass.place ≡ l.turnstile.place) × All (λ w. w.pass.place ≡ l.turnstile.place) l.all.items
    × ((n : ℕ) → n < l.turnstile.passes → 1 ≤ times n (numbers_of (own l.pass)) + times n (map (λ w. w.pass.number) l.all.items))

abbrev pub decreases-loop-worked : goal.decreases-loop-worked
decreases-loop-worked l = vec_len l.all
