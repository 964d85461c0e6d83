use Rattle.std.proofs.Common.{ap, arith, count_by, length, map, subst, sym, ◌∙◌}
use Rattle.qm_model.specs.Merging.{moved_to}
use Rattle.qm_parts.specs.Rooms.{HavePlacesFor, HaveRoom, is_home, leads_to, rooms_of}
use Rattle.qm_parts.specs.Tables.{Tables}
use Rattle.qm_parts.proofs.Bounds.{unknown_bounds}
use Rattle.qm_parts.proofs.Reach.{more_room, reach_moved}
use Rattle.qm_parts.proofs.parts.Parts.merge.Goals as goal

pub refill_all-requires-clause-enough : goal.refill_all-requires-clause-enough
refill_all-requires-clause-enough c = omega (arith, c.self.invariant.enough, ap (λ (t : Tables). length t.queues) c.merge-moved.ensures.entries)

pub refill_all-requires-clause-room : goal.refill_all-requires-clause-room
refill_all-requires-clause-room c =
    let t = c.self.inside.tables in
    let to = c.args.to.now in
    let from = c.args.from.now in
    let places = subst (λ (u : Tables). HavePlacesFor to (count_by (is_home from) u.entries) u) (sym c.self.view_is) c.requires in
    subst (λ (u : Tables). HaveRoom u.queues u.entries (rooms_of c.self.inside.rows.items)) (sym c.merge-moved.ensures.entries)
    (more_room (count_by (is_home from) t.entries) (λ q. leads_to t.queues q to) t.queues t.entries (map (moved_to to from) t.entries) (rooms_of c.self.inside.rows.items) (reach_moved t.queues t.entries to from) c.self.invariant.room places)

pub invariant_of-self : goal.invariant_of-self
invariant_of-self c =
    let is = c.merge-moved.ensures.entries in
    let t = c.self.inside.tables in
    let to = c.args.to.now in
    let from = c.args.from.now in
    let places = subst (λ (u : Tables). HavePlacesFor to (count_by (is_home from) u.entries) u) (sym c.self.view_is) c.requires in
    let room = subst (λ (u : Tables). HaveRoom u.queues u.entries (rooms_of c.self.inside.rows.items)) (sym is)
    (more_room (count_by (is_home from) t.entries) (λ q. leads_to t.queues q to) t.queues t.entries (map (moved_to to from) t.entries) (rooms_of c.self.inside.rows.items) (reach_moved t.queues t.entries to from) c.self.invariant.room places) in
    record {
      queues = omega (arith, c.self.invariant.queues, ap (λ (u : Tables). u.spare_queues) is);
      enough = omega (arith, c.self.invariant.enough, ap (λ (u : Tables). length u.queues) is, c.refill_all.ensures.count);
      bounded = c.forget_each.ensures.count ∙ c.self.invariant.bounded ∙ sym c.refill_all.ensures.count;
      room = subst (HaveRoom c.merge-moved.new.self.queues c.merge-moved.new.self.entries) (sym c.refill_all.ensures.room) room;
      bounds = unknown_bounds c.merge-moved.new.self.queues c.merge-moved.new.self.entries c.forget_each.new.bounds.items c.forget_each.ensures.unknown;
      ready = c.refill_all.ensures.ready;
    }
