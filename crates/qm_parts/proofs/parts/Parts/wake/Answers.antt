use Rattle.qm_model.specs.Due.{entry_at}
use Rattle.qm_parts.proofs.KeptRows.{kept_by, enough_for, room_for}
use Rattle.qm_parts.proofs.Reach.{homes_stay}
use Rattle.qm_parts.specs.Tables.{Tables}
use Rattle.std.proofs.Common.{ap, arith, refl}
use Rattle.qm_parts.proofs.parts.Parts.wake.Goals as goal

pub refill_all-requires-clause-enough : goal.refill_all-requires-clause-enough
refill_all-requires-clause-enough c =
    enough_for c.self.inside.tables c.self.inside.rows.items c.self.inside.bounds.items c.self.inside.queue_room c.self.invariant c.wake.new.self
    (homes_stay c.self.inside.tables c.wake.new.self (ap (λ (t : Tables). t.queues) c.wake.ensures) (entry_at c.args.now) (ap (λ (t : Tables). t.entries) c.wake.ensures) (λ e. refl))

pub refill_all-requires-clause-room : goal.refill_all-requires-clause-room
refill_all-requires-clause-room c =
    room_for c.self.inside.tables c.self.inside.rows.items c.self.inside.bounds.items c.self.inside.queue_room c.self.invariant c.wake.new.self
    (homes_stay c.self.inside.tables c.wake.new.self (ap (λ (t : Tables). t.queues) c.wake.ensures) (entry_at c.args.now) (ap (λ (t : Tables). t.entries) c.wake.ensures) (λ e. refl))

pub invariant_of-self : goal.invariant_of-self
invariant_of-self c =
    kept_by c.self.inside.tables c.self.inside.rows.items c.self.inside.bounds.items c.self.inside.queue_room c.self.invariant c.wake.new.self
    (homes_stay c.self.inside.tables c.wake.new.self (ap (λ (t : Tables). t.queues) c.wake.ensures) (entry_at c.args.now) (ap (λ (t : Tables). t.entries) c.wake.ensures) (λ e. refl))
    c.refill_all.new.rows.items
    (omega (arith, c.self.invariant.queues, ap (λ (t : Tables). t.spare_queues) c.wake.ensures)) c.refill_all.ensures.count c.refill_all.ensures.room
    c.refill_all.ensures.ready
