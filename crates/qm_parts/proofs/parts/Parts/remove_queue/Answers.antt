use Rattle.std.proofs.Common.{◌+◌, ◌≤◌, Bool, true, false, cond, is_some, ℕ, List, ap, arith, length, subst, sym, ◌∙◌}
use Rattle.qm_model.specs.Common.{Queue, queue_named}
use Rattle.qm_parts.specs.Rooms.{HaveRoom, rooms_of}
use Rattle.qm_parts.specs.Tables.{Tables}
use Rattle.qm_parts.proofs.Bounds.{unknown_bounds}
use Rattle.qm_parts.proofs.KeptRows.{room_left}
use Rattle.qm_parts.proofs.PutRows.{room_without_queue}
use Rattle.qm_parts.proofs.parts.Parts.remove_queue.Goals as goal

within : (b : Bool) (room spare : ℕ) → room ≤ spare → cond b (room + 1) room ≤ cond b (spare + 1) spare
within true room spare le = omega (arith, le)
within false room spare le = le

no_less : (b : Bool) (room : ℕ) → room ≤ cond b (room + 1) room
no_less true room = omega arith
no_less false room = omega arith

pub close_up-requires-clause-rows : goal.close_up-requires-clause-rows
close_up-requires-clause-rows c = omega (arith, c.self.invariant.enough, ap (λ (qs : List Queue). length qs) c.queues.ensures.queues)

pub refill_all-requires-clause-enough : goal.refill_all-requires-clause-enough
refill_all-requires-clause-enough c =
    let t = c.self.inside.tables in
    omega (
      arith,
      c.self.invariant.enough,
      c.close_up.ensures.count,
      ap (λ (u : Tables). length u.queues) c.remove_queue.ensures,
      room_left c.args.name.now t.queues c.self.inside.queue_room,
      no_less (is_some (queue_named c.args.name.now t.queues)) c.self.inside.queue_room,
    )

pub refill_all-requires-clause-room : goal.refill_all-requires-clause-room
refill_all-requires-clause-room c =
    let t = c.self.inside.tables in
    subst (λ (u : Tables). HaveRoom u.queues u.entries (rooms_of c.close_up.new.rows.items)) (sym c.remove_queue.ensures)
    (room_without_queue t.queues t.entries c.self.inside.rows.items c.close_up.new.rows.items c.args.name.now c.self.invariant.room (rw c.queues.ensures.queues at c.close_up.ensures.met))

pub invariant_of-self : goal.invariant_of-self
invariant_of-self c =
    let is = c.remove_queue.ensures in
    let t = c.self.inside.tables in
    let u = c.remove_queue.new.self in
    let left = room_left c.args.name.now t.queues c.self.inside.queue_room in
    let rooms = subst (λ (u : Tables). HaveRoom u.queues u.entries (rooms_of c.close_up.new.rows.items)) (sym is)
    (room_without_queue t.queues t.entries c.self.inside.rows.items c.close_up.new.rows.items c.args.name.now c.self.invariant.room (rw c.queues.ensures.queues at c.close_up.ensures.met)) in
    record {
      queues = omega (arith, ap (λ (u : Tables). u.spare_queues) is, c.room_without-self-inside.ensures, within (is_some (queue_named c.args.name.now t.queues)) c.self.inside.queue_room t.spare_queues c.self.invariant.queues);
      enough = omega (arith, c.self.invariant.enough, ap (λ (u : Tables). length u.queues) is, c.room_without-self-inside.ensures, left, c.close_up.ensures.count, c.refill_all.ensures.count);
      bounded = c.forget_each.ensures.count ∙ c.self.invariant.bounded ∙ sym (c.refill_all.ensures.count ∙ c.close_up.ensures.count);
      room = subst (HaveRoom u.queues u.entries) (sym c.refill_all.ensures.room) rooms;
      bounds = unknown_bounds u.queues u.entries c.forget_each.new.bounds.items c.forget_each.ensures.unknown;
      ready = c.refill_all.ensures.ready;
    }
