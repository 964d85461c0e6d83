use Rattle.qm_model.specs.Stopping.{reset_in}
use Rattle.qm_parts.proofs.KeptRows.{kept_for}
use Rattle.qm_parts.proofs.Reach.{homes_stay}
use Rattle.qm_parts.proofs.ReadyKeys.{home_reset}
use Rattle.qm_parts.proofs.ReadyRows.{reset_rows}
use Rattle.qm_parts.specs.Ready.{AreReady}
use Rattle.qm_parts.specs.Tables.{Tables}
use Rattle.std.proofs.Common.{ap, arith, subst, sym}
use Rattle.qm_parts.proofs.parts.Parts.reset_queue.Goals as goal

pub invariant_of-self : goal.invariant_of-self
invariant_of-self c =
    let is = c.reset_queue.ensures in
    kept_for c.self.inside.tables c.self.inside.rows.items c.self.inside.bounds.items c.self.inside.queue_room c.self.invariant c.reset_queue.new.self
    (homes_stay c.self.inside.tables c.reset_queue.new.self (ap (λ (t : Tables). t.queues) is) (reset_in c.args.queue.now) (ap (λ (t : Tables). t.entries) is) (home_reset c.args.queue.now))
    (omega (arith, c.self.invariant.queues, ap (λ (t : Tables). t.spare_queues) is))
    (subst (λ (t : Tables). AreReady t c.self.inside.rows.items) (sym is) (reset_rows c.self.inside.tables c.self.inside.rows.items c.args.queue.now c.self.invariant.ready))
