use Rattle.std.proofs.Common.{◌≡◌, ◌∙◌, ℕ, List, length, cond, None, ap, sym, arith, filter}
use Rattle.qm_tables.specs.Timers.{Waiting, moment_of}
use Rattle.qm_tables.proofs.TimersKeeping.{kept_passing, same_length}
use Rattle.qm_tables.proofs.TimerNumbers.{moment_of-kept}
use Rattle.qm_tables.proofs.timers.table.Timers.retain.Goals as goal

pub invariant_of-self : goal.invariant_of-self
invariant_of-self g c = rw (c.keep_numbers.ensures.items, c.keep_numbers-2.ensures.items) (kept_passing (λ t. g.kept t.1) c.self.inside.by_moment.items c.self.inside.by_number.items c.self.invariant)

pub returns-clause-timers : goal.returns-clause-timers
returns-clause-timers g c = c.keep_numbers.ensures.items ∙ ap (λ (w : Waiting). filter (λ t. g.kept t.1) w.timers) c.self.view_is

pub returns-clause-in_order : goal.returns-clause-in_order
returns-clause-in_order g c = rw c.keep_numbers.ensures.items (kept_passing (λ t. g.kept t.1) c.self.inside.by_moment.items c.self.inside.by_number.items c.self.invariant).in_order

pub returns-clause-each : goal.returns-clause-each
returns-clause-each g c = λ number.
    ap (moment_of number) c.keep_numbers.ensures.items ∙ moment_of-kept g.kept number c.self.inside.by_moment.items
    ∙ ap (λ (w : Waiting). cond (g.kept number) (moment_of number w.timers) None) c.self.view_is

pub returns-clause-spare : goal.returns-clause-spare
returns-clause-spare g c =
    let xs : List (ℕ × ℕ) = c.self.inside.by_moment.items in
    let ys : List (ℕ × ℕ) = c.self.inside.by_number.items in
    let before : length ys ≡ length xs = same_length xs ys c.self.invariant in
    let after : length c.keep_numbers-2.new.timers.items ≡ length c.keep_numbers.new.timers.items =
    ap length c.keep_numbers-2.ensures.items ∙ same_length _ _ (kept_passing (λ t. g.kept t.1) xs ys c.self.invariant) ∙ sym (ap length c.keep_numbers.ensures.items) in
    let spare = ap (λ (w : Waiting). w.spare) c.self.view_is in
    let count = ap (λ (w : Waiting). length w.timers) c.self.view_is in
    omega (
      arith,
      before,
      after,
      spare,
      count,
      c.keep_numbers.ensures.capacity,
      c.keep_numbers-2.ensures.capacity,
      c.keep_numbers.ensures.len,
      c.keep_numbers-2.ensures.len,
      c.self.inside.by_moment.ok,
      c.self.inside.by_number.ok,
      c.keep_numbers.new.timers.ok,
      c.keep_numbers-2.new.timers.ok,
    )
