use Rattle.std.proofs.Common.{◌≡◌, ◌∙◌, ℕ, List, length, nat_lt, cond, Some, None, ap, sym, arith, option_and_then}
use Rattle.qm_tables.specs.Timers.{Waiting, moment_of, later_than}
use Rattle.qm_tables.proofs.TimersKeeping.{kept_passing, same_length}
use Rattle.qm_tables.proofs.TimerNumbers.{moment_of-later}
use Rattle.qm_tables.proofs.timers.table.Timers.remove_due.Goals as goal

pub invariant_of-self : goal.invariant_of-self
invariant_of-self c = rw (c.keep_later.ensures.items, c.keep_later-2.ensures.items) (kept_passing (λ t. nat_lt c.args.now t.0) c.self.inside.by_moment.items c.self.inside.by_number.items c.self.invariant)

pub returns-clause-timers : goal.returns-clause-timers
returns-clause-timers c = c.keep_later.ensures.items ∙ ap (λ (w : Waiting). later_than c.args.now w.timers) c.self.view_is

pub returns-clause-in_order : goal.returns-clause-in_order
returns-clause-in_order c = rw c.keep_later.ensures.items (kept_passing (λ t. nat_lt c.args.now t.0) c.self.inside.by_moment.items c.self.inside.by_number.items c.self.invariant).in_order

pub returns-clause-each : goal.returns-clause-each
returns-clause-each c = λ number.
    ap (moment_of number) c.keep_later.ensures.items ∙ moment_of-later c.args.now number c.self.inside.by_moment.items c.self.invariant.in_order.once
    ∙ ap (λ (w : Waiting). option_and_then (λ at. cond (nat_lt c.args.now at) (Some at) None) (moment_of number w.timers)) c.self.view_is

pub returns-clause-spare : goal.returns-clause-spare
returns-clause-spare c =
    let xs : List (ℕ × ℕ) = c.self.inside.by_moment.items in
    let ys : List (ℕ × ℕ) = c.self.inside.by_number.items in
    let before : length ys ≡ length xs = same_length xs ys c.self.invariant in
    let after : length c.keep_later-2.new.timers.items ≡ length c.keep_later.new.timers.items =
    ap length c.keep_later-2.ensures.items ∙ same_length _ _ (kept_passing (λ t. nat_lt c.args.now t.0) xs ys c.self.invariant) ∙ sym (ap length c.keep_later.ensures.items) in
    let spare = ap (λ (w : Waiting). w.spare) c.self.view_is in
    let count = ap (λ (w : Waiting). length w.timers) c.self.view_is in
    omega (
      arith,
      before,
      after,
      spare,
      count,
      c.keep_later.ensures.capacity,
      c.keep_later-2.ensures.capacity,
      c.keep_later.ensures.len,
      c.keep_later-2.ensures.len,
      c.self.inside.by_moment.ok,
      c.self.inside.by_number.ok,
      c.keep_later.new.timers.ok,
      c.keep_later-2.new.timers.ok,
    )
