use Rattle.std.proofs.Common.{◌≡◌, List, get_or, false, arith, subst}
use Rattle.qm_keyed.specs.Places.{StandsAt}
use Rattle.qm_model.specs.Common.{Queue, name_cmp, is_generic}
use Rattle.qm_tables.proofs.QueueNames.{name_of}
use Rattle.qm_parts.proofs.OneQueue.{one_row, row_set}
use Rattle.qm_parts.proofs.RowLoops.{room_here}
use Rattle.qm_parts.proofs.rows.refill_for.Goals as goal

pub returns-in-Some-clause-ready : goal.returns-in-Some-clause-ready
returns-in-Some-clause-ready c t change leaves is ready =
    let u = c.args.tables.now in
    let stands = subst (λ (qs : List Queue). StandsAt name_cmp name_of c.args.name.now qs c.in-Some.place) c.queues.ensures.queues c.in-Some.ensures.stands in
    let kind = subst (λ (qs : List Queue). (q : Queue) → is_generic (get_or qs c.in-Some.place q).kind ≡ false) c.queues.ensures.queues c.in-Some.ensures.kind in
    one_row t c.args.name.now change leaves u is c.in-Some.place stands kind c.args.rows.now.items c.index-queues-place.result c.refill.new.row ready (omega (arith, stands.within, c.requires.enough))
    (rw c.queues-in-Some.ensures.queues at c.index-queues-place.is) c.refill.ensures.ready

pub refill-requires : goal.refill-requires
refill-requires c =
    let u = c.args.tables.now in
    let stands = subst (λ (qs : List Queue). StandsAt name_cmp name_of c.args.name.now qs c.in-Some.place) c.queues.ensures.queues c.in-Some.ensures.stands in
    record {
      room =
          room_here u.queues u.entries c.in-Some.place c.index-queues-place.result c.index_mut.result.now c.args.rows.now.items c.requires.room stands.within c.requires.enough
          (rw c.queues-in-Some.ensures.queues at c.index-queues-place.is) c.index_mut.ensures.value;
    }

pub returns-in-Some-clause-room : goal.returns-in-Some-clause-room
returns-in-Some-clause-room c =
    let stands = subst (λ (qs : List Queue). StandsAt name_cmp name_of c.args.name.now qs c.in-Some.place) c.queues.ensures.queues c.in-Some.ensures.stands in
    row_set c.args.rows.now.items c.in-Some.place c.index_mut.result.now c.refill.new.row (omega (arith, stands.within, c.requires.enough)) c.index_mut.ensures.value c.refill.ensures.room
