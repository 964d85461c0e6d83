use Rattle.std.proofs.Common.{◌≡◌, ◌≤◌, ◌+◌, ◌-◌, map, [], vec_capacity, vec_len}
use Rattle.std.specs.List.{range_with_len}
use Rattle.qm_turn.specs.Turns.{fresh}
use Rattle.qm_turn.specs.Rule.{pass_view}
use Rattle.qm_turn.proofs.turnstile.Turnstile.split.Given as goal

abbrev pub invariant-loop-number : goal.invariant-loop-number
invariant-loop-number g l =
    (l.first.table_id ≡ l.self.place) × (l.first.me ≡ (pass_view 0 [] l._number, [])) × (l.passes ≤ vec_capacity l.list)
    × (vec_len l.list + 1 ≡ l._number) × (l.list.items ≡ map (fresh l.self.place) (range_with_len 1 (l._number - 1)))
