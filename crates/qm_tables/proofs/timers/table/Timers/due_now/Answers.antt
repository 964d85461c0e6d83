use Rattle.std.proofs.Common.{◌∙◌, nat_le, take, ap}
use Rattle.qm_tables.specs.Timers.{Waiting, due_at}
use Rattle.qm_tables.proofs.TimerOrders.{take_passing}
use Rattle.qm_tables.proofs.timers.table.Timers.due_now.Goals as goal

pub returns-clause-due : goal.returns-clause-due
returns-clause-due c =
    ap (take c.place_by_now.result) c.deref.ensures.value
    ∙ take_passing (λ t. nat_le t.0 c.args.now) c.self.inside.by_moment.items c.place_by_now.result (rw c.deref-2.ensures.value at c.place_by_now.ensures)
    ∙ ap (λ (w : Waiting). due_at c.args.now w.timers) c.self.view_is
