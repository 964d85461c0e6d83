use Rattle.qm_tables.specs.Timers.{later_than}
use Rattle.qm_parts.proofs.KeptTimers.{kept_timers}
use Rattle.qm_parts.proofs.parts.Parts.remove_due_timers.Goals as goal

pub invariant_of-self : goal.invariant_of-self
invariant_of-self c =
    kept_timers c.self.inside.tables c.remove_due_timers.new.self c.self.inside.rows.items c.self.inside.bounds.items c.self.inside.queue_room (later_than c.args.now c.self.inside.tables.timers) c.remove_due_timers.new.self.spare_timers c.remove_due_timers.ensures.tables c.self.invariant
