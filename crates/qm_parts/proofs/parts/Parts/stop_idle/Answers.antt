use Rattle.qm_model.specs.States.{when_idle}
use Rattle.qm_parts.proofs.KeptRows.{kept_for}
use Rattle.qm_parts.proofs.Reach.{queues_stay}
use Rattle.qm_parts.proofs.ReadyQueues.{idle_rows}
use Rattle.qm_parts.specs.Ready.{AreReady}
use Rattle.qm_parts.specs.Tables.{Tables}
use Rattle.std.proofs.Common.{ap, arith, refl, subst, sym}
use Rattle.qm_parts.proofs.parts.Parts.stop_idle.Goals as goal

pub invariant_of-self : goal.invariant_of-self
invariant_of-self c =
    let is = c.stop_idle.ensures in
    kept_for c.self.inside.tables c.self.inside.rows.items c.self.inside.bounds.items c.self.inside.queue_room c.self.invariant c.stop_idle.new.self
    (queues_stay (when_idle c.self.inside.tables.entries) (λ q. refl) (λ q. refl) c.self.inside.tables c.stop_idle.new.self (ap (λ (t : Tables). t.queues) is) (ap (λ (t : Tables). t.entries) is))
    (omega (arith, c.self.invariant.queues, ap (λ (t : Tables). t.spare_queues) is))
    (subst (λ (t : Tables). AreReady t c.self.inside.rows.items) (sym is) (idle_rows c.self.inside.tables c.self.inside.rows.items c.self.invariant.ready))
