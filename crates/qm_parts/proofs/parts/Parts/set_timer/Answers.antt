use Rattle.qm_tables.specs.Timers.{with_timer}
use Rattle.qm_parts.proofs.KeptTimers.{kept_timers}
use Rattle.qm_parts.proofs.parts.Parts.set_timer.Goals as goal

pub invariant_of-self : goal.invariant_of-self
invariant_of-self c =
    kept_timers c.self.inside.tables c.set_timer.new.self c.self.inside.rows.items c.self.inside.bounds.items c.self.inside.queue_room (with_timer c.args.number c.args.at c.self.inside.tables.timers) c.set_timer.new.self.spare_timers c.set_timer.ensures.tables c.self.invariant
