use Rattle.qm_model.specs.Stopping.{with_fate}
use Rattle.qm_parts.proofs.KeptRows.{kept_for}
use Rattle.qm_parts.proofs.Reach.{home_stays}
use Rattle.qm_parts.proofs.ReadyRows.{fate_rows}
use Rattle.qm_parts.specs.Ready.{AreReady}
use Rattle.qm_parts.specs.Tables.{Tables}
use Rattle.std.proofs.Common.{ap, arith, refl, subst, sym}
use Rattle.qm_parts.proofs.parts.Parts.set_fate.Goals as goal

pub invariant_of-self : goal.invariant_of-self
invariant_of-self c =
    let is = c.set_fate.ensures in
    kept_for c.self.inside.tables c.self.inside.rows.items c.self.inside.bounds.items c.self.inside.queue_room c.self.invariant c.set_fate.new.self
    (home_stays c.self.inside.tables c.set_fate.new.self (ap (λ (t : Tables). t.queues) is) c.args.number (with_fate c.args.fate) (ap (λ (t : Tables). t.entries) is) (λ e. refl))
    (omega (arith, c.self.invariant.queues, ap (λ (t : Tables). t.spare_queues) is))
    (subst (λ (t : Tables). AreReady t c.self.inside.rows.items) (sym is) (fate_rows c.self.inside.tables c.self.inside.rows.items c.args.number c.args.fate c.self.invariant.ready))
