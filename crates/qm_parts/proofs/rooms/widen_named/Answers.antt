use Rattle.std.proofs.Common.{◌<◌, List, length, arith, subst, length-set}
use Rattle.qm_keyed.specs.Places.{StandsAt, BelongsAt}
use Rattle.qm_model.specs.Common.{Queue, name_cmp}
use Rattle.qm_tables.proofs.QueueNames.{name_of}
use Rattle.qm_parts.proofs.Bounds.{bound_here, bounds_set}
use Rattle.qm_parts.proofs.KeptRows.{wider_set}
use Rattle.qm_parts.proofs.Widening.{if_ok, none_there, room_there, wider_of}
use Rattle.qm_parts.proofs.rooms.widen_named.Goals as goal

pub returns-in_default-clause-places : goal.returns-in_default-clause-places
returns-in_default-clause-places c k q within is =
    let belongs = subst (λ (ps : List Queue). BelongsAt name_cmp name_of c.args.name.now ps c.in_default.field-0) c.queues.ensures.queues c.in_default.ensures in
    absurd (none_there c.args.tables.now.queues c.args.name.now c.in_default.field-0 belongs k q within is)

pub widen-requires : goal.widen-requires
widen-requires c =
    let t = c.args.tables.now in
    let place = c.in-Ok.place in
    let stands = subst (λ (ps : List Queue). StandsAt name_cmp name_of c.args.name.now ps place) c.queues.ensures.queues c.in-Ok.ensures in
    bound_here t.queues t.entries c.args.bounds.now.items place c.index-queues-place.result c.index_mut-2.result.now c.requires.bounds stands.within
    (omega (arith, stands.within, c.requires.enough, c.requires.bounded)) (rw c.queues-2.ensures.queues at c.index-queues-place.is) c.index_mut-2.ensures.value

pub returns-clause-places : goal.returns-clause-places
returns-clause-places c =
    let t = c.args.tables.now in
    let place = c.in-Ok.place in
    let stands = subst (λ (ps : List Queue). StandsAt name_cmp name_of c.args.name.now ps place) c.queues.ensures.queues c.in-Ok.ensures in
    let inside : place < length c.args.rows.now.items = omega (arith, stands.within, c.requires.enough) in
    if_ok c.widen.result
    (λ room. room_there t c.args.more c.args.name.now place stands c.index-queues-place.result c.args.rows.now.items c.widen.new.row inside (rw c.queues-2.ensures.queues at c.index-queues-place.is) room c.requires.enough)
    c.widen.ensures.ok

pub returns-clause-same : goal.returns-clause-same
returns-clause-same c =
    let place = c.in-Ok.place in
    let stands = subst (λ (ps : List Queue). StandsAt name_cmp name_of c.args.name.now ps place) c.queues.ensures.queues c.in-Ok.ensures in
    let inside : place < length c.args.rows.now.items = omega (arith, stands.within, c.requires.enough) in
    wider_set c.args.rows.now.items place c.index_mut.result.now c.widen.new.row inside c.index_mut.ensures.value
    (wider_of place c.index_mut.result.now c.widen.new.row c.widen.ensures.same c.widen.ensures.no_less)

pub returns-clause-bounds : goal.returns-clause-bounds
returns-clause-bounds c =
    let t = c.args.tables.now in
    let place = c.in-Ok.place in
    let stands = subst (λ (ps : List Queue). StandsAt name_cmp name_of c.args.name.now ps place) c.queues.ensures.queues c.in-Ok.ensures in
    bounds_set t.queues t.entries c.args.bounds.now.items place c.index-queues-place.result c.widen.new.bound c.requires.bounds stands.within
    (omega (arith, stands.within, c.requires.enough, c.requires.bounded)) (rw c.queues-2.ensures.queues at c.index-queues-place.is) c.widen.ensures.bound

pub returns-clause-bounded : goal.returns-clause-bounded
returns-clause-bounded c = length-set c.args.bounds.now.items c.in-Ok.place c.widen.new.bound
