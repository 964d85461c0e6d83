use Rattle.std.proofs.Common.{◌<◌, ◌∙◌, ℕ, Option, IfSome, length, ap, sym, subst, arith}
use Rattle.qm_tables.specs.Timers.{Waiting, is_before, moment_of, with_timer, inserted}
use Rattle.qm_tables.proofs.TimerNumbers.{moment_of-with, length-inserted}
use Rattle.qm_tables.proofs.TimersKeeping.{with_same, room_without, no_less_room}
use Rattle.qm_tables.proofs.timers.table.Timers.set.Goals as goal

pub returns-then-are_same-clause-timers : goal.returns-then-are_same-clause-timers
returns-then-are_same-clause-timers c = with_same c.args.self.now.timers c.moment_of.ensures.in_order c.args.number c.args.at (sym c.moment_of.ensures.moment ∙ c.are_same.ensures c.if-are_same.true)

pub returns-then-are_same-clause-each : goal.returns-then-are_same-clause-each
returns-then-are_same-clause-each c = λ other.
    ap (moment_of other) (with_same c.args.self.now.timers c.moment_of.ensures.in_order c.args.number c.args.at (sym c.moment_of.ensures.moment ∙ c.are_same.ensures c.if-are_same.true))
    ∙ moment_of-with c.args.number other c.args.at c.args.self.now.timers

pub returns-in-Some-clause-timers : goal.returns-in-Some-clause-timers
returns-in-Some-clause-timers c =
    ap (λ (w : Waiting). w.timers) c.insert.ensures.inserted ∙ ap (inserted (c.in-Some.at, c.args.number)) c.remove.ensures.timers ∙ ap (λ o. with_timer c.args.number o c.args.self.now.timers) (sym c.in-Some.is)

pub returns-in-Some-clause-each : goal.returns-in-Some-clause-each
returns-in-Some-clause-each c = λ other.
    ap (moment_of other) (ap (λ (w : Waiting). w.timers) c.insert.ensures.inserted ∙ ap (inserted (c.in-Some.at, c.args.number)) c.remove.ensures.timers ∙ ap (λ o. with_timer c.args.number o c.args.self.now.timers) (sym c.in-Some.is))
    ∙ moment_of-with c.args.number other c.args.at c.args.self.now.timers

pub returns-in-Some-clause-spare : goal.returns-in-Some-clause-spare
returns-in-Some-clause-spare c =
    let left = room_without c.args.number c.args.self.now.timers c.remove.result c.args.self.now.spare c.remove.new.self.spare c.moment_of.ensures.in_order.once c.remove.ensures.found c.remove.ensures.spare in
    let spare = ap (λ (w : Waiting). w.spare) c.insert.ensures.inserted in
    let count = ap (λ (w : Waiting). length w.timers) c.insert.ensures.inserted in
    let room : 0 < c.args.self.now.spare = subst (λ (o : Option ℕ). IfSome o (λ a. 0 < c.args.self.now.spare)) c.in-Some.is c.requires.room in
    omega (arith, left, spare, count, length-inserted is_before (c.in-Some.at, c.args.number) c.remove.new.self.timers, ap length c.remove.ensures.timers, room, no_less_room c.remove.result c.args.self.now.spare c.remove.new.self.spare c.remove.ensures.spare)

pub returns-in_default-clause-timers : goal.returns-in_default-clause-timers
returns-in_default-clause-timers c = c.remove.ensures.timers ∙ ap (λ o. with_timer c.args.number o c.args.self.now.timers) (sym c.in_default.is)

pub returns-in_default-clause-each : goal.returns-in_default-clause-each
returns-in_default-clause-each c = λ other.
    ap (moment_of other) (c.remove.ensures.timers ∙ ap (λ o. with_timer c.args.number o c.args.self.now.timers) (sym c.in_default.is))
    ∙ moment_of-with c.args.number other c.args.at c.args.self.now.timers

pub returns-in_default-clause-spare : goal.returns-in_default-clause-spare
returns-in_default-clause-spare c =
    let left = room_without c.args.number c.args.self.now.timers c.remove.result c.args.self.now.spare c.remove.new.self.spare c.moment_of.ensures.in_order.once c.remove.ensures.found c.remove.ensures.spare in
    omega (arith, left, ap length c.remove.ensures.timers)
