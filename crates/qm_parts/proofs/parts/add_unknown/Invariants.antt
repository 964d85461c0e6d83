use Rattle.std.proofs.Common.{◌≡◌, None, length, get_or, ℕ}
use Rattle.qm_parts.proofs.parts.add_unknown.Given as goal

abbrev pub invariant-loop : goal.invariant-loop
invariant-loop l = record { count : length l.bounds.items ≡ l.counter; unknown : (place : ℕ) → get_or l.bounds.items place None ≡ None }
