use Rattle.std.proofs.Common.{◌≡◌, ap, arith, false, length, subst, sym, Some, Option, ◌∙◌, IfSome, bytes_eq}
use Rattle.qm_match.specs.declared.order.Key.{Key}
use Rattle.qm_model.specs.Common.{entry_numbered, with_entry}
use Rattle.qm_parts.specs.Ready.{AreStale}
use Rattle.qm_parts.specs.Rooms.{AreBounds, HavePlacesFor, HaveRoom, rooms_of}
use Rattle.qm_parts.specs.Tables.{Tables}
use Rattle.qm_parts.proofs.Reach.{room_replaced}
use Rattle.qm_parts.proofs.Renewed.{stale_rows, pending_number, none_before}
use Rattle.qm_parts.proofs.parts.Parts.replace_entry.Goals as goal

pub renew_number-requires-clause-stale : goal.renew_number-requires-clause-stale
renew_number-requires-clause-stale c =
    let e = c.args.entry in
    subst (λ (u : Tables). AreStale e.number c.key_before-old.result u c.self.inside.rows.items) (sym c.replace_entry.ensures.tables)
    (subst (λ (o : Option Key). AreStale e.number o (record c.self.inside.tables { entries = with_entry e.number (λ x. Some e) c.self.inside.tables.entries; spare_runs = c.replace_entry.new.self.spare_runs }) c.self.inside.rows.items)
    (sym c.key_before-old.ensures) (stale_rows c.self.inside.tables c.self.inside.rows.items e c.replace_entry.new.self.spare_runs c.self.invariant.ready))

pub renew_number-requires-clause-number : goal.renew_number-requires-clause-number
renew_number-requires-clause-number c =
    subst (λ (o : Option Key). IfSome o (λ k. k.number ≡ c.args.entry.number)) (sym c.key_before-old.ensures) (pending_number c.args.entry.number c.self.inside.tables.entries)

pub renew_number-requires-clause-none : goal.renew_number-requires-clause-none
renew_number-requires-clause-none c absent =
    let e = c.args.entry in
    c.key_before-old.ensures
    ∙ none_before e c.self.inside.tables.entries (sym (ap (λ (u : Tables). entry_numbered e.number u.entries) c.replace_entry.ensures.tables) ∙ absent)

pub renew_number-requires-clause-room : goal.renew_number-requires-clause-room
renew_number-requires-clause-room c =
    let t = c.self.inside.tables in
    let e = c.args.entry in
    let places = subst (λ (u : Tables). IfSome (entry_numbered e.number u.entries) (λ old. bytes_eq old.home e.home ≡ false → HavePlacesFor e.home 1 u)) (sym c.self.view_is) c.requires.places in
    subst (λ (u : Tables). HaveRoom u.queues u.entries (rooms_of c.self.inside.rows.items)) (sym c.replace_entry.ensures.tables)
    (room_replaced t.queues t.entries e (rooms_of c.self.inside.rows.items) c.raise_moved.ensures.in_order c.self.invariant.room places)

pub invariant_of-self : goal.invariant_of-self
invariant_of-self c =
    let is = c.replace_entry.ensures.tables in
    let t = c.self.inside.tables in
    let e = c.args.entry in
    let places = subst (λ (u : Tables). IfSome (entry_numbered e.number u.entries) (λ old. bytes_eq old.home e.home ≡ false → HavePlacesFor e.home 1 u)) (sym c.self.view_is) c.requires.places in
    record {
      queues = omega (arith, c.self.invariant.queues, ap (λ (u : Tables). u.spare_queues) is);
      enough = omega (arith, c.self.invariant.enough, ap (λ (u : Tables). length u.queues) is, c.renew_number.ensures.count);
      bounded = c.raise_moved.ensures.count ∙ c.self.invariant.bounded ∙ sym c.renew_number.ensures.count;
      room = subst (λ (u : Tables). HaveRoom u.queues u.entries (rooms_of c.renew_number.new.rows.items)) (sym is)
          (subst (HaveRoom t.queues (with_entry e.number (λ x. Some e) t.entries)) (sym c.renew_number.ensures.room)
          (room_replaced t.queues t.entries e (rooms_of c.self.inside.rows.items) c.raise_moved.ensures.in_order c.self.invariant.room places));
      bounds = subst (λ (u : Tables). AreBounds u.queues u.entries c.raise_moved.new.bounds.items) (sym is) c.raise_moved.ensures.bounds;
      ready = c.renew_number.ensures.ready;
    }
