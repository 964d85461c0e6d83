use Rattle.qm_parts.proofs.KeptRows.{kept_for}
use Rattle.qm_parts.proofs.Reach.{all_stay}
use Rattle.qm_parts.specs.Ready.{AreReady}
use Rattle.qm_parts.specs.Tables.{Tables}
use Rattle.std.proofs.Common.{ap, arith, subst, sym}
use Rattle.qm_parts.proofs.parts.Parts.reserve_characteristic.Goals as goal

pub invariant_of-self : goal.invariant_of-self
invariant_of-self c =
    let is = c.reserve_characteristic.ensures.tables in
    kept_for c.self.inside.tables c.self.inside.rows.items c.self.inside.bounds.items c.self.inside.queue_room c.self.invariant c.reserve_characteristic.new.self
    (all_stay c.self.inside.tables c.reserve_characteristic.new.self (ap (λ (t : Tables). t.queues) is) (ap (λ (t : Tables). t.entries) is))
    (omega (arith, c.self.invariant.queues, ap (λ (t : Tables). t.spare_queues) is))
    (subst (λ (t : Tables). AreReady t c.self.inside.rows.items) (sym is) (c.self.invariant.ready))
