use Rattle.qm_model.specs.Common.{Entry, Running}
use Rattle.qm_parts.proofs.KeptRows.{kept_by}
use Rattle.qm_parts.proofs.Reach.{home_stays}
use Rattle.qm_parts.proofs.ReadyRows.{started_rows}
use Rattle.qm_parts.specs.Ready.{AreReady}
use Rattle.qm_parts.specs.Tables.{Tables}
use Rattle.std.proofs.Common.{◌+◌, ◌-◌, ap, arith, refl, subst, sym}
use Rattle.qm_parts.proofs.parts.Parts.start.Goals as goal

pub invariant_of-self : goal.invariant_of-self
invariant_of-self c =
    let is = c.start.ensures.tables in
    let t = c.self.inside.tables in
    kept_by c.self.inside.tables c.self.inside.rows.items c.self.inside.bounds.items c.self.inside.queue_room c.self.invariant c.start.new.self
    (home_stays c.self.inside.tables c.start.new.self (ap (λ (t : Tables). t.queues) is) c.args.number (λ (e : Entry). record e { state = Running c.args.queue c.args.node t.next_run }) (ap (λ (t : Tables). t.entries) is) (λ e. refl))
    c.forget_number.new.rows.items (omega (arith, c.self.invariant.queues, ap (λ (t : Tables). t.spare_queues) is)) c.forget_number.ensures.count c.forget_number.ensures.room
    (subst (λ (u : Tables). AreReady u c.forget_number.new.rows.items) (sym is)
    (started_rows t c.forget_number.new.rows.items c.args.number c.args.queue c.args.node t.next_run (t.next_run + 1) (t.spare_runs - 1) c.forget_number.ensures.ready))
