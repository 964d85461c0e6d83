use Rattle.std.proofs.Common.{◌<◌, List, length, ap, arith}
use Rattle.qm_kinds.specs.declared.queue.Queue.{Queue}
use Rattle.qm_parts.specs.Ready.{ready_key}
use Rattle.qm_parts.proofs.Each.{none_done, one_done}
use Rattle.qm_parts.proofs.RowLoops.{IsMade, all_made, made, room_kept, room_next}
use Rattle.qm_parts.proofs.rows.refill_all.Goals as goal

pub refill-requires : goal.refill-requires
refill-requires c =
    let t = c.args.tables.now in
    let within : c.loop-place.place < length t.queues = omega (arith, c.loop-place-test.true, ap (λ (qs : List Queue). length qs) c.queues-place-end.ensures.queues) in
    record {
      room =
          room_next (ready_key t) t.queues t.entries c.loop-place.place c.index-queues-place.result c.index_mut.result.now c.args.rows.now.items c.loop-place.rows.items
          c.loop-place.invariant c.requires.room within c.requires.enough (rw c.queues.ensures.queues at c.index-queues-place.is) c.index_mut.ensures.value;
    }

pub loop-place-preserved : goal.loop-place-preserved
loop-place-preserved c =
    let t = c.args.tables.now in
    let within : c.loop-place.place < length t.queues = omega (arith, c.loop-place-test.true, ap (λ (qs : List Queue). length qs) c.queues-place-end.ensures.queues) in
    let inside : c.loop-place.place < length c.args.rows.now.items = omega (arith, within, c.requires.enough) in
    one_done (IsMade (ready_key t) t.queues) c.loop-place.place c.args.rows.now.items c.loop-place.rows.items c.refill.new.row c.loop-place.invariant inside
    (made (ready_key t) t.queues c.loop-place.place c.index-queues-place.result c.loop-place.rows.items c.index_mut.result.now c.refill.new.row within inside c.loop-place.invariant.count
    (rw c.queues.ensures.queues at c.index-queues-place.is) c.index_mut.ensures.value c.refill.ensures.ready c.refill.ensures.room)

pub returns-clause-room : goal.returns-clause-room
returns-clause-room c = room_kept (ready_key c.args.tables.now) c.args.tables.now.queues c.loop-place.place c.args.rows.now.items c.loop-place.rows.items c.loop-place.invariant

pub loop-place-init : goal.loop-place-init
loop-place-init c = none_done (IsMade (ready_key c.args.tables.now) c.args.tables.now.queues) c.args.rows.now.items

pub returns-clause-ready : goal.returns-clause-ready
returns-clause-ready c =
    all_made (ready_key c.args.tables.now) c.args.tables.now.queues c.loop-place.place c.args.rows.now.items c.loop-place.rows.items c.loop-place.invariant
    (omega (arith, c.loop-place-test.false, ap (λ (qs : List Queue). length qs) c.queues-place-end.ensures.queues)) c.requires.enough
