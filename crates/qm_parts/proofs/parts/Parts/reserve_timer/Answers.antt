use Rattle.qm_parts.proofs.KeptTimers.{kept_timers}
use Rattle.qm_parts.proofs.parts.Parts.reserve_timer.Goals as goal

pub invariant_of-self : goal.invariant_of-self
invariant_of-self c =
    kept_timers c.self.inside.tables c.reserve_timer.new.self c.self.inside.rows.items c.self.inside.bounds.items c.self.inside.queue_room c.self.inside.tables.timers c.reserve_timer.new.self.spare_timers c.reserve_timer.ensures.tables c.self.invariant
