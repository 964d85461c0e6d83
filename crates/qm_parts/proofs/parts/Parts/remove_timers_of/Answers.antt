use Rattle.qm_parts.proofs.KeptTimers.{kept_timers}
use Rattle.qm_parts.proofs.parts.Parts.remove_timers_of.Goals as goal

pub invariant_of-self : goal.invariant_of-self
invariant_of-self c =
    kept_timers c.self.inside.tables c.remove_timers_of.new.self c.self.inside.rows.items c.self.inside.bounds.items c.self.inside.queue_room c.remove_timers_of.new.self.timers c.remove_timers_of.new.self.spare_timers c.remove_timers_of.ensures.tables c.self.invariant
