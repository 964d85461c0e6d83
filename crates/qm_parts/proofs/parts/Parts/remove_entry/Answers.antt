use Rattle.qm_parts.proofs.KeptRows.{kept_by}
use Rattle.qm_parts.proofs.Reach.{one_goes}
use Rattle.qm_parts.proofs.ReadyRows.{gone_rows}
use Rattle.qm_parts.specs.Ready.{AreReady}
use Rattle.qm_parts.specs.Tables.{Tables}
use Rattle.std.proofs.Common.{ap, arith, subst, sym}
use Rattle.qm_parts.proofs.parts.Parts.remove_entry.Goals as goal

pub invariant_of-self : goal.invariant_of-self
invariant_of-self c =
    let is = c.remove_entry.ensures.tables in
    kept_by c.self.inside.tables c.self.inside.rows.items c.self.inside.bounds.items c.self.inside.queue_room c.self.invariant c.remove_entry.new.self
    (one_goes c.self.inside.tables c.remove_entry.new.self (ap (λ (t : Tables). t.queues) is) c.args.number (ap (λ (t : Tables). t.entries) is))
    c.forget_number.new.rows.items (omega (arith, c.self.invariant.queues, ap (λ (t : Tables). t.spare_queues) is)) c.forget_number.ensures.count c.forget_number.ensures.room
    (subst (λ (u : Tables). AreReady u c.forget_number.new.rows.items) (sym is)
    (gone_rows c.self.inside.tables c.forget_number.new.rows.items c.args.number c.remove_entry.new.self.spare_runs c.forget_number.ensures.ready))
