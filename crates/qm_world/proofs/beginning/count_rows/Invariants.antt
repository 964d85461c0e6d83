use Rattle.std.proofs.Common.{◌≡◌, ◌<◌, ℕ, get_or, true}
use Rattle.qm_history.specs.Common.{Record, is_row}
use Rattle.qm_world.proofs.beginning.count_rows.Given as goal

abbrev pub invariant-loop-place : goal.invariant-loop-place
invariant-loop-place l = (k : ℕ) (d : Record) → k < l.place → is_row (get_or l.log k d).body ≡ true
