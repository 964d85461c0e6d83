use Rattle.std.proofs.Common.{◌≡◌, ◌<◌, ◌∙◌, ◌||◌, ℕ, List, length, set, ap, arith, subst, sym, bytes_eq, length-set}
use Rattle.std.specs.List.{list_any}
use Rattle.qm_keyed.specs.Places.{StandsAt, BelongsAt}
use Rattle.qm_model.specs.Common.{Queue, name_cmp}
use Rattle.qm_tables.proofs.QueueNames.{name_of}
use Rattle.qm_ready.specs.Rows.{Row}
use Rattle.qm_parts.specs.Rooms.{HasRoomWhere, is_one_of, targets_of}
use Rattle.qm_parts.proofs.Bounds.{bound_here, bounds_set}
use Rattle.qm_parts.proofs.KeptRows.{wider_set}
use Rattle.qm_parts.proofs.Widening.{leads_nowhere, not_both, if_ok, keeps_on, room_either, room_there, still_room, targets_there, wider_of}
use Rattle.qm_parts.proofs.rooms.widen_home.Goals as goal

pub returns-in_default-clause-places : goal.returns-in_default-clause-places
returns-in_default-clause-places c k q within is =
    let belongs = subst (λ (ps : List Queue). BelongsAt name_cmp name_of c.args.home.now ps c.in_default.field-0) c.queues.ensures.queues c.in_default.ensures in
    absurd (not_both _ is (leads_nowhere c.args.tables.now.queues c.args.home.now c.in_default.field-0 belongs k q within))

pub widen-requires : goal.widen-requires
widen-requires c =
    let t = c.args.tables.now in
    let place = c.in-Ok.place in
    let stands = subst (λ (ps : List Queue). StandsAt name_cmp name_of c.args.home.now ps place) c.queues.ensures.queues c.in-Ok.ensures in
    bound_here t.queues t.entries c.args.bounds.now.items place c.index-queues-place.result c.index_mut-2.result.now c.requires.bounds stands.within
    (omega (arith, stands.within, c.requires.enough, c.requires.bounded)) (rw c.queues-2.ensures.queues at c.index-queues-place.is) c.index_mut-2.ensures.value

pub returns-in_err-widen-clause-same : goal.returns-in_err-widen-clause-same
returns-in_err-widen-clause-same c =
    let place = c.in-Ok.place in
    let stands = subst (λ (ps : List Queue). StandsAt name_cmp name_of c.args.home.now ps place) c.queues.ensures.queues c.in-Ok.ensures in
    let inside : place < length c.args.rows.now.items = omega (arith, stands.within, c.requires.enough) in
    wider_set c.args.rows.now.items place c.index_mut.result.now c.widen.new.row inside c.index_mut.ensures.value
    (wider_of place c.index_mut.result.now c.widen.new.row c.widen.ensures.same c.widen.ensures.no_less)

pub returns-in_err-widen-clause-bounds : goal.returns-in_err-widen-clause-bounds
returns-in_err-widen-clause-bounds c =
    let t = c.args.tables.now in
    let place = c.in-Ok.place in
    let stands = subst (λ (ps : List Queue). StandsAt name_cmp name_of c.args.home.now ps place) c.queues.ensures.queues c.in-Ok.ensures in
    bounds_set t.queues t.entries c.args.bounds.now.items place c.index-queues-place.result c.widen.new.bound c.requires.bounds stands.within
    (omega (arith, stands.within, c.requires.enough, c.requires.bounded)) (rw c.queues-2.ensures.queues at c.index-queues-place.is) c.widen.ensures.bound

pub widen_targets-requires-clause-bounds : goal.widen_targets-requires-clause-bounds
widen_targets-requires-clause-bounds c =
    let t = c.args.tables.now in
    let place = c.in-Ok.place in
    let stands = subst (λ (ps : List Queue). StandsAt name_cmp name_of c.args.home.now ps place) c.queues.ensures.queues c.in-Ok.ensures in
    bounds_set t.queues t.entries c.args.bounds.now.items place c.index-queues-place.result c.widen.new.bound c.requires.bounds stands.within
    (omega (arith, stands.within, c.requires.enough, c.requires.bounded)) (rw c.queues-2.ensures.queues at c.index-queues-place.is) c.widen.ensures.bound

pub returns-clause-places : goal.returns-clause-places
returns-clause-places c =
    let t = c.args.tables.now in
    let home = c.args.home.now in
    let place = c.in-Ok.place in
    let rows : List Row = c.args.rows.now.items in
    let stands = subst (λ (ps : List Queue). StandsAt name_cmp name_of home ps place) c.queues.ensures.queues c.in-Ok.ensures in
    let inside : place < length rows = omega (arith, stands.within, c.requires.enough) in
    let wide : List Row = set rows place c.widen.new.row in
    let ts : List (List ℕ) = c.as_slice.result.now in
    let targets : targets_of t.queues home ≡ ts =
    targets_there t.queues home place stands c.index-queues-place.result
    ∙ ap (λ (q : Queue). q.targets) (sym (rw c.queues-2.ensures.queues at c.index-queues-place.is)) ∙ sym c.as_slice.ensures in
    let own : HasRoomWhere (λ q. bytes_eq home q.name) c.args.more t wide =
    room_there t c.args.more home place stands c.index-queues-place.result rows c.widen.new.row inside (rw c.queues-2.ensures.queues at c.index-queues-place.is) c.in_ok-widen.ensures.ok c.requires.enough in
    if_ok c.widen_targets.result
    (λ room.
    room_either t c.args.more (λ q. bytes_eq home q.name) (λ q. list_any (λ target. bytes_eq target q.name) ts) (is_one_of home (targets_of t.queues home)) c.widen_targets.new.rows.items
    (λ q. ap (λ (us : List (List ℕ)). bytes_eq home q.name || list_any (λ target. bytes_eq target q.name) us) targets)
    (still_room t c.args.more (λ q. bytes_eq home q.name) wide c.widen_targets.new.rows.items (omega (arith, c.requires.enough, length-set rows place c.widen.new.row)) c.widen_targets.ensures.same own)
    room)
    c.widen_targets.ensures.places

pub returns-clause-same : goal.returns-clause-same
returns-clause-same c =
    let place = c.in-Ok.place in
    let rows : List Row = c.args.rows.now.items in
    let stands = subst (λ (ps : List Queue). StandsAt name_cmp name_of c.args.home.now ps place) c.queues.ensures.queues c.in-Ok.ensures in
    let inside : place < length rows = omega (arith, stands.within, c.requires.enough) in
    keeps_on rows (set rows place c.widen.new.row) c.widen_targets.new.rows.items
    (wider_set rows place c.index_mut.result.now c.widen.new.row inside c.index_mut.ensures.value
    (wider_of place c.index_mut.result.now c.widen.new.row c.widen.ensures.same c.widen.ensures.no_less))
    c.widen_targets.ensures.same

pub returns-clause-bounded : goal.returns-clause-bounded
returns-clause-bounded c = c.widen_targets.ensures.bounded ∙ length-set c.args.bounds.now.items c.in-Ok.place c.widen.new.bound

pub widen_targets-requires-clause-enough : goal.widen_targets-requires-clause-enough
widen_targets-requires-clause-enough c = omega (arith, c.requires.enough, length-set c.args.rows.now.items c.in-Ok.place c.widen.new.row)

pub widen_targets-requires-clause-bounded : goal.widen_targets-requires-clause-bounded
widen_targets-requires-clause-bounded c =
    length-set c.args.bounds.now.items c.in-Ok.place c.widen.new.bound ∙ c.requires.bounded ∙ sym (length-set c.args.rows.now.items c.in-Ok.place c.widen.new.row)

pub returns-in_err-widen-clause-bounded : goal.returns-in_err-widen-clause-bounded
returns-in_err-widen-clause-bounded c = length-set c.args.bounds.now.items c.in-Ok.place c.widen.new.bound

pub returns-clause-bounds : goal.returns-clause-bounds
returns-clause-bounds c = c.widen_targets.ensures.bounds
