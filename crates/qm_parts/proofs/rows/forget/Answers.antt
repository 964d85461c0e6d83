use Rattle.std.proofs.Common.{◌<◌, List, length, ap, arith}
use Rattle.qm_kinds.specs.declared.queue.Queue.{Queue}
use Rattle.qm_parts.specs.Ready.{ready_key, without_number}
use Rattle.qm_parts.proofs.Each.{none_done, one_done}
use Rattle.qm_parts.proofs.RowLoops.{IsMade, all_made, forgotten_at, room_kept}
use Rattle.qm_parts.proofs.rows.forget.Goals as goal

pub loop-place-preserved : goal.loop-place-preserved
loop-place-preserved c =
    let t = c.args.tables.now in
    let within : c.loop-place.place < length t.queues = omega (arith, c.loop-place-test.true, ap (λ (qs : List Queue). length qs) c.queues-place-end.ensures.queues) in
    let inside : c.loop-place.place < length c.args.rows.now.items = omega (arith, within, c.requires.enough) in
    one_done (IsMade (λ q. without_number c.args.entry.now.number (ready_key t q)) t.queues) c.loop-place.place c.args.rows.now.items c.loop-place.rows.items c.remove.new.self c.loop-place.invariant inside
    (forgotten_at t c.args.entry.now c.requires.there c.loop-place.place c.args.rows.now.items c.loop-place.rows.items c.loop-place.invariant c.requires.ready within c.requires.enough
    c.index_mut.result.now c.remove.new.self c.index_mut.ensures.value c.of-key.result c.of-key.ensures c.remove.result c.remove.ensures.found c.remove.ensures.removed c.remove.ensures.each c.remove.ensures.room)

pub returns-clause-room : goal.returns-clause-room
returns-clause-room c =
    room_kept (λ q. without_number c.args.entry.now.number (ready_key c.args.tables.now q)) c.args.tables.now.queues c.loop-place.place c.args.rows.now.items c.loop-place.rows.items c.loop-place.invariant

pub loop-place-init : goal.loop-place-init
loop-place-init c = none_done (IsMade (λ q. without_number c.args.entry.now.number (ready_key c.args.tables.now q)) c.args.tables.now.queues) c.args.rows.now.items

pub returns-clause-ready : goal.returns-clause-ready
returns-clause-ready c =
    all_made (λ q. without_number c.args.entry.now.number (ready_key c.args.tables.now q)) c.args.tables.now.queues c.loop-place.place c.args.rows.now.items c.loop-place.rows.items c.loop-place.invariant
    (omega (arith, c.loop-place-test.false, ap (λ (qs : List Queue). length qs) c.queues-place-end.ensures.queues)) c.requires.enough
