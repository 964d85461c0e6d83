use Rattle.std.proofs.Common.{◌∙◌, ap, arith, subst, sym}
use Rattle.qm_parts.specs.Ready.{AreReady}
use Rattle.qm_parts.specs.Rooms.{HavePlaces, HavePlacesFor, rooms_of, targets_of}
use Rattle.qm_parts.specs.Tables.{Tables}
use Rattle.qm_parts.proofs.KeptRows.{kept_for}
use Rattle.qm_parts.proofs.Reach.{all_stay}
use Rattle.qm_parts.proofs.Widening.{if_ok}
use Rattle.qm_parts.proofs.parts.Parts.reserve_entry.Goals as goal

pub invariant_of-self : goal.invariant_of-self
invariant_of-self c =
    let is = c.reserve_entry.ensures.tables in
    kept_for c.self.inside.tables c.self.inside.rows.items c.self.inside.bounds.items c.self.inside.queue_room c.self.invariant c.reserve_entry.new.self
    (all_stay c.self.inside.tables c.reserve_entry.new.self (ap (λ (t : Tables). t.queues) is) (ap (λ (t : Tables). t.entries) is))
    (omega (arith, c.self.invariant.queues, ap (λ (t : Tables). t.spare_queues) is)) (subst (λ (t : Tables). AreReady t c.self.inside.rows.items) (sym is) c.self.invariant.ready)

pub returns-clause-places : goal.returns-clause-places
returns-clause-places c =
    let home = c.args.home.now in
    if_ok c.reserve_entry.result
    (λ room.
    subst (λ (t : Tables). HavePlaces home (targets_of t.queues home) 1 (record t { rooms = rooms_of c.self.inside.rows.items })) (sym c.reserve_entry.ensures.tables)
    (subst (λ (t : Tables). HavePlacesFor home 1 t) (sym c.self.view_is) c.in_ok-reserve_places.ensures.places))
    c.reserve_entry.ensures.ok

pub returns-clause-tables : goal.returns-clause-tables
returns-clause-tables c =
    ap (λ (t : Tables). record t { spare_queues = c.self.inside.queue_room; rooms = rooms_of c.self.inside.rows.items }) c.reserve_entry.ensures.tables
    ∙ ap (λ (t : Tables). record t { spare_entries = c.reserve_entry.new.self.spare_entries; rooms = rooms_of c.self.inside.rows.items }) (c.self.view_is ∙ c.reserve_places.ensures.tables)
