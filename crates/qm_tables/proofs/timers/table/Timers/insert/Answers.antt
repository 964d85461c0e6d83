use Rattle.std.proofs.Common.{ℕ, List, ap, ◌∙◌, arith}
use Rattle.qm_tables.specs.Timers.{Waiting, is_before, inserted_by}
use Rattle.qm_tables.specs.TimersKept.{has_less}
use Rattle.qm_tables.proofs.TimerOrders.{insert-is}
use Rattle.qm_tables.proofs.TimersKeeping.{kept_inserted, waiting_is}
use Rattle.qm_tables.proofs.timers.table.Timers.insert.Goals as goal

pub invariant_of-self : goal.invariant_of-self
invariant_of-self c =
    let t : ℕ × ℕ = (c.args.at, c.args.number) in
    let xs : List (ℕ × ℕ) = c.self.inside.by_moment.items in
    let ys : List (ℕ × ℕ) = c.self.inside.by_number.items in
    let absent = rw (← c.self.view_is) at c.requires.absent in
    let moments = c.put.ensures.items ∙ insert-is is_before xs t c.place_by_moment-place.result (rw c.deref.ensures.value at c.place_by_moment-place.ensures) in
    let numbers = c.put-2.ensures.items ∙ insert-is has_less ys t c.place_by_number-place.result (rw c.deref-2.ensures.value at c.place_by_number-place.ensures) in
    rw (moments, numbers) (kept_inserted xs ys t c.self.invariant absent)

pub returns-clause-inserted : goal.returns-clause-inserted
returns-clause-inserted c =
    let t : ℕ × ℕ = (c.args.at, c.args.number) in
    let xs : List (ℕ × ℕ) = c.self.inside.by_moment.items in
    let moments = c.put.ensures.items ∙ insert-is is_before xs t c.place_by_moment-place.result (rw c.deref.ensures.value at c.place_by_moment-place.ensures) in
    let seen = ap (λ (w : Waiting). inserted_by is_before t w.timers) c.self.view_is in
    let spare = ap (λ (w : Waiting). w.spare) c.self.view_is in
    waiting_is _ _ _ _ (moments ∙ seen) (omega (arith, spare))

pub returns-clause-in_order : goal.returns-clause-in_order
returns-clause-in_order c =
    let t : ℕ × ℕ = (c.args.at, c.args.number) in
    let xs : List (ℕ × ℕ) = c.self.inside.by_moment.items in
    let ys : List (ℕ × ℕ) = c.self.inside.by_number.items in
    let absent = rw (← c.self.view_is) at c.requires.absent in
    let moments = c.put.ensures.items ∙ insert-is is_before xs t c.place_by_moment-place.result (rw c.deref.ensures.value at c.place_by_moment-place.ensures) in
    rw moments (kept_inserted xs ys t c.self.invariant absent).in_order
