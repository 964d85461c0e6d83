use Rattle.std.proofs.Common.{◌≡◌, ◌<◌, None, length, get_or, ℕ}
use Rattle.qm_parts.proofs.rooms.forget_each.Given as goal

-- the bounds before the place are forgotten
abbrev pub invariant-loop-place : goal.invariant-loop-place
invariant-loop-place l = record { count : length l.bounds.items ≡ length l.initial.bounds.items; unknown : (k : ℕ) → k < l.place → get_or l.bounds.items k None ≡ None }
