use Rattle.qm_parts.proofs.KeptRows.{kept_by, enough_for, room_for}
use Rattle.qm_parts.proofs.Reach.{some_stay}
use Rattle.qm_parts.specs.Tables.{Tables}
use Rattle.std.proofs.Common.{ap, arith, not, bytes_eq}
use Rattle.qm_parts.proofs.parts.Parts.remove_of_home.Goals as goal

pub refill_all-requires-clause-enough : goal.refill_all-requires-clause-enough
refill_all-requires-clause-enough c =
    enough_for c.self.inside.tables c.self.inside.rows.items c.self.inside.bounds.items c.self.inside.queue_room c.self.invariant c.remove_of_home.new.self
    (some_stay c.self.inside.tables c.remove_of_home.new.self (ap (λ (t : Tables). t.queues) c.remove_of_home.ensures) (λ e. not (bytes_eq e.home c.args.home.now)) (ap (λ (t : Tables). t.entries) c.remove_of_home.ensures))

pub refill_all-requires-clause-room : goal.refill_all-requires-clause-room
refill_all-requires-clause-room c =
    room_for c.self.inside.tables c.self.inside.rows.items c.self.inside.bounds.items c.self.inside.queue_room c.self.invariant c.remove_of_home.new.self
    (some_stay c.self.inside.tables c.remove_of_home.new.self (ap (λ (t : Tables). t.queues) c.remove_of_home.ensures) (λ e. not (bytes_eq e.home c.args.home.now)) (ap (λ (t : Tables). t.entries) c.remove_of_home.ensures))

pub invariant_of-self : goal.invariant_of-self
invariant_of-self c =
    kept_by c.self.inside.tables c.self.inside.rows.items c.self.inside.bounds.items c.self.inside.queue_room c.self.invariant c.remove_of_home.new.self
    (some_stay c.self.inside.tables c.remove_of_home.new.self (ap (λ (t : Tables). t.queues) c.remove_of_home.ensures) (λ e. not (bytes_eq e.home c.args.home.now)) (ap (λ (t : Tables). t.entries) c.remove_of_home.ensures))
    c.refill_all.new.rows.items
    (omega (arith, c.self.invariant.queues, ap (λ (t : Tables). t.spare_queues) c.remove_of_home.ensures)) c.refill_all.ensures.count c.refill_all.ensures.room
    c.refill_all.ensures.ready
