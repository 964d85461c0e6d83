use Rattle.std.proofs.Common.{◌-◌, ◌≤◌, Bool, true, false, cond, is_some, ℕ, List, ap, arith, length, subst, sym, ◌∙◌}
use Rattle.qm_model.specs.Common.{Queue, queue_named}
use Rattle.qm_parts.specs.Rooms.{CanPut, HaveRoom, rooms_of}
use Rattle.qm_parts.specs.Tables.{Tables}
use Rattle.qm_parts.proofs.Bounds.{unknown_bounds}
use Rattle.qm_parts.proofs.KeptRows.{room_put}
use Rattle.qm_parts.proofs.PutRows.{room_with_queue}
use Rattle.qm_parts.proofs.parts.Parts.put_queue.Goals as goal

within : (b : Bool) (room spare : ℕ) → room ≤ spare → cond b room (room - 1) ≤ cond b spare (spare - 1)
within true room spare le = le
within false room spare le = omega (arith, le)

pub make_way-requires-clause-row : goal.make_way-requires-clause-row
make_way-requires-clause-row c absent =
    let room = ap (λ (u : Tables). u.spare_queues) c.self.view_is in
    omega (arith, c.self.invariant.enough, room, c.requires.room, ap (λ (qs : List Queue). length qs) c.queues.ensures.queues)

pub refill_all-requires-clause-enough : goal.refill_all-requires-clause-enough
refill_all-requires-clause-enough c =
    let t = c.self.inside.tables in
    let room = ap (λ (u : Tables). u.spare_queues) c.self.view_is in
    omega (arith, c.self.invariant.enough, c.make_way.ensures.count, ap (λ (u : Tables). length u.queues) c.put_queue.ensures, room_put c.args.queue t.queues c.self.inside.queue_room (omega (arith, room, c.requires.room)))

pub refill_all-requires-clause-room : goal.refill_all-requires-clause-room
refill_all-requires-clause-room c =
    let t = c.self.inside.tables in
    subst (λ (u : Tables). HaveRoom u.queues u.entries (rooms_of c.make_way.new.rows.items)) (sym c.put_queue.ensures)
    (room_with_queue t c.self.inside.queue_room c.self.inside.rows.items c.make_way.new.rows.items c.args.queue c.self.invariant.room (subst (CanPut c.args.queue) (sym c.self.view_is) c.requires) (rw c.queues.ensures.queues at c.make_way.ensures.met))

pub invariant_of-self : goal.invariant_of-self
invariant_of-self c =
    let is = c.put_queue.ensures in
    let t = c.self.inside.tables in
    let u = c.put_queue.new.self in
    let room = ap (λ (u : Tables). u.spare_queues) c.self.view_is in
    let put = room_put c.args.queue t.queues c.self.inside.queue_room (omega (arith, room, c.requires.room)) in
    let rooms = subst (λ (u : Tables). HaveRoom u.queues u.entries (rooms_of c.make_way.new.rows.items)) (sym is)
    (room_with_queue t c.self.inside.queue_room c.self.inside.rows.items c.make_way.new.rows.items c.args.queue c.self.invariant.room (subst (CanPut c.args.queue) (sym c.self.view_is) c.requires) (rw c.queues.ensures.queues at c.make_way.ensures.met)) in
    record {
      queues = omega (arith, ap (λ (u : Tables). u.spare_queues) is, c.room_with-self-inside.ensures, within (is_some (queue_named c.args.queue.name t.queues)) c.self.inside.queue_room t.spare_queues c.self.invariant.queues);
      enough = omega (arith, c.self.invariant.enough, ap (λ (u : Tables). length u.queues) is, c.room_with-self-inside.ensures, put, c.make_way.ensures.count, c.refill_all.ensures.count);
      bounded = c.forget_each.ensures.count ∙ c.self.invariant.bounded ∙ sym (c.refill_all.ensures.count ∙ c.make_way.ensures.count);
      room = subst (HaveRoom u.queues u.entries) (sym c.refill_all.ensures.room) rooms;
      bounds = unknown_bounds u.queues u.entries c.forget_each.new.bounds.items c.forget_each.ensures.unknown;
      ready = c.refill_all.ensures.ready;
    }
