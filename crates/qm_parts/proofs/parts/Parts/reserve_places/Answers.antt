use Rattle.qm_parts.proofs.KeptRows.{kept_wider}
use Rattle.qm_parts.proofs.parts.Parts.reserve_places.Goals as goal

pub invariant_of-self : goal.invariant_of-self
invariant_of-self c =
    kept_wider c.self.inside.tables c.self.inside.rows.items c.widen_home.new.rows.items c.self.inside.bounds.items c.widen_home.new.bounds.items c.self.inside.queue_room c.self.invariant c.widen_home.ensures.same c.widen_home.ensures.bounded c.widen_home.ensures.bounds
