use Rattle.std.proofs.Common.{ℕ, List, length, ap, sym, ◌∙◌, arith}
use Rattle.qm_tables.specs.Timers.{Waiting, is_before, without}
use Rattle.qm_tables.specs.TimersKept.{IsTimerAt, Parts}
use Rattle.qm_tables.proofs.TimersKeeping.{kept_without, without_none, remove_by_number, remove_by_moment, stands, gone}
use Rattle.qm_tables.proofs.timers.table.Timers.remove.Goals as goal

pub returns-in_default-clause-timers : goal.returns-in_default-clause-timers
returns-in_default-clause-timers c =
    let none = rw (c.in_default.is, c.deref.ensures.value) at c.find_by_number.ensures in
    rw (← c.self.view_is) (without_none c.self.inside.by_moment.items c.self.inside.by_number.items c.args.number c.self.invariant none)

pub returns-in_default-clause-gone : goal.returns-in_default-clause-gone
returns-in_default-clause-gone c =
    let none = rw (c.in_default.is, c.deref.ensures.value) at c.find_by_number.ensures in
    rw (← c.self.view_is) (sym (c.self.invariant.same c.args.number) ∙ none)

pub remove-requires : goal.remove-requires
remove-requires c =
    let xs : List (ℕ × ℕ) = c.self.inside.by_moment.items in
    let ys : List (ℕ × ℕ) = c.self.inside.by_number.items in
    let at : IsTimerAt c.args.number ys c.in-Some.place = rw c.deref.ensures.value at c.in-Some.ensures in
    let parts : Parts (λ u. is_before u c.remove-timer.result) xs c.place_by_moment-place.result = rw c.deref-2.ensures.value at c.place_by_moment-place.ensures in
    let within = (stands xs ys c.in-Some.place c.place_by_moment-place.result c.args.number c.remove-timer.result c.self.invariant at c.remove-timer.ensures.value parts).within in
    let same = ap length c.deref-2.ensures.value in
    omega (arith, within, same, c.deref-2.ensures.len)

-- both lists are without the number
pub invariant_of-self : goal.invariant_of-self
invariant_of-self c =
    let xs : List (ℕ × ℕ) = c.self.inside.by_moment.items in
    let ys : List (ℕ × ℕ) = c.self.inside.by_number.items in
    let at : IsTimerAt c.args.number ys c.in-Some.place = rw c.deref.ensures.value at c.in-Some.ensures in
    let parts : Parts (λ u. is_before u c.remove-timer.result) xs c.place_by_moment-place.result = rw c.deref-2.ensures.value at c.place_by_moment-place.ensures in
    let moments = c.remove.ensures.items ∙ remove_by_moment xs ys c.in-Some.place c.place_by_moment-place.result c.args.number c.remove-timer.result c.self.invariant at c.remove-timer.ensures.value parts in
    let numbers = c.remove-timer.ensures.items ∙ remove_by_number ys c.in-Some.place c.args.number c.self.invariant.rising at in
    rw (moments, numbers) (kept_without xs ys c.args.number c.self.invariant)

pub returns-clause-timers : goal.returns-clause-timers
returns-clause-timers c =
    let xs : List (ℕ × ℕ) = c.self.inside.by_moment.items in
    let ys : List (ℕ × ℕ) = c.self.inside.by_number.items in
    let at : IsTimerAt c.args.number ys c.in-Some.place = rw c.deref.ensures.value at c.in-Some.ensures in
    let parts : Parts (λ u. is_before u c.remove-timer.result) xs c.place_by_moment-place.result = rw c.deref-2.ensures.value at c.place_by_moment-place.ensures in
    let moments = c.remove.ensures.items ∙ remove_by_moment xs ys c.in-Some.place c.place_by_moment-place.result c.args.number c.remove-timer.result c.self.invariant at c.remove-timer.ensures.value parts in
    moments ∙ ap (λ (w : Waiting). without c.args.number w.timers) c.self.view_is

pub returns-clause-gone : goal.returns-clause-gone
returns-clause-gone c =
    let xs : List (ℕ × ℕ) = c.self.inside.by_moment.items in
    let ys : List (ℕ × ℕ) = c.self.inside.by_number.items in
    let at : IsTimerAt c.args.number ys c.in-Some.place = rw c.deref.ensures.value at c.in-Some.ensures in
    let parts : Parts (λ u. is_before u c.remove-timer.result) xs c.place_by_moment-place.result = rw c.deref-2.ensures.value at c.place_by_moment-place.ensures in
    let moments = c.remove.ensures.items ∙ remove_by_moment xs ys c.in-Some.place c.place_by_moment-place.result c.args.number c.remove-timer.result c.self.invariant at c.remove-timer.ensures.value parts in
    rw moments (gone xs c.args.number)

pub returns-clause-in_order : goal.returns-clause-in_order
returns-clause-in_order c =
    let xs : List (ℕ × ℕ) = c.self.inside.by_moment.items in
    let ys : List (ℕ × ℕ) = c.self.inside.by_number.items in
    let at : IsTimerAt c.args.number ys c.in-Some.place = rw c.deref.ensures.value at c.in-Some.ensures in
    let parts : Parts (λ u. is_before u c.remove-timer.result) xs c.place_by_moment-place.result = rw c.deref-2.ensures.value at c.place_by_moment-place.ensures in
    let moments = c.remove.ensures.items ∙ remove_by_moment xs ys c.in-Some.place c.place_by_moment-place.result c.args.number c.remove-timer.result c.self.invariant at c.remove-timer.ensures.value parts in
    rw moments (kept_without xs ys c.args.number c.self.invariant).in_order
