use Rattle.std.proofs.Common.{◌<◌, ◌-◌, ◌++◌, ◌∷◌, [], List, None, ap, arith, length, subst, sym, ◌∙◌, All}
use Rattle.qm_ready.specs.Rows.{Row}
use Rattle.qm_parts.specs.Ready.{AreStale}
use Rattle.qm_parts.specs.Rooms.{AreBounds, HavePlacesFor, HaveRoom, leads_to, rooms_of}
use Rattle.qm_parts.specs.Tables.{Tables}
use Rattle.qm_parts.proofs.Bounds.{raised_bounds}
use Rattle.qm_parts.proofs.Reach.{more_room, reach_behind}
use Rattle.qm_parts.proofs.ReadyRows.{behind_rows}
use Rattle.qm_parts.proofs.Renewed.{but_stale}
use Rattle.qm_parts.proofs.parts.Parts.insert_entry.Goals as goal

pub renew_number-requires-clause-stale : goal.renew_number-requires-clause-stale
renew_number-requires-clause-stale c =
    let t = c.self.inside.tables in
    let e = c.args.entry in
    let rows : List Row = c.self.inside.rows.items in
    let last = subst (λ (u : Tables). All (λ x. x.number < e.number) u.entries) (sym c.self.view_is) c.requires.last in
    subst (λ (u : Tables). AreStale e.number None u rows) (sym c.insert_entry.ensures)
    (but_stale (record t { entries = t.entries ++ e ∷ []; spare_entries = t.spare_entries - 1 }) rows e.number (behind_rows t rows e (t.spare_entries - 1) last c.self.invariant.ready))

pub renew_number-requires-clause-room : goal.renew_number-requires-clause-room
renew_number-requires-clause-room c =
    let t = c.self.inside.tables in
    let e = c.args.entry in
    let places = subst (HavePlacesFor e.home 1) (sym c.self.view_is) c.requires.places in
    subst (λ (u : Tables). HaveRoom u.queues u.entries (rooms_of c.self.inside.rows.items)) (sym c.insert_entry.ensures)
    (more_room 1 (λ q. leads_to t.queues q e.home) t.queues t.entries (t.entries ++ e ∷ []) (rooms_of c.self.inside.rows.items) (λ q. omega (arith, reach_behind t.queues t.entries e q)) c.self.invariant.room places)

pub invariant_of-self : goal.invariant_of-self
invariant_of-self c =
    let is = c.insert_entry.ensures in
    let t = c.self.inside.tables in
    let e = c.args.entry in
    let places = subst (HavePlacesFor e.home 1) (sym c.self.view_is) c.requires.places in
    let room = subst (λ (u : Tables). HaveRoom u.queues u.entries (rooms_of c.self.inside.rows.items)) (sym is)
    (more_room 1 (λ q. leads_to t.queues q e.home) t.queues t.entries (t.entries ++ e ∷ []) (rooms_of c.self.inside.rows.items) (λ q. omega (arith, reach_behind t.queues t.entries e q)) c.self.invariant.room places) in
    record {
      queues = omega (arith, c.self.invariant.queues, ap (λ (u : Tables). u.spare_queues) is);
      enough = omega (arith, c.self.invariant.enough, ap (λ (u : Tables). length u.queues) is, c.renew_number.ensures.count);
      bounded = c.raise_each.ensures.count ∙ c.self.invariant.bounded ∙ sym c.renew_number.ensures.count;
      room = subst (HaveRoom c.insert_entry.new.self.queues c.insert_entry.new.self.entries) (sym c.renew_number.ensures.room) room;
      bounds = subst (λ (u : Tables). AreBounds u.queues u.entries c.raise_each.new.bounds.items) (sym is)
          (raised_bounds t.queues t.entries (t.entries ++ e ∷ []) e.home c.self.inside.bounds.items c.raise_each.new.bounds.items (λ q. omega (arith, reach_behind t.queues t.entries e q)) c.raise_each.ensures.raised c.self.invariant.bounds);
      ready = c.renew_number.ensures.ready;
    }
