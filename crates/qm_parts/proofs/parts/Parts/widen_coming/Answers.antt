use Rattle.std.proofs.Common.{◌≡◌, ◌<◌, ◌∙◌, List, length, get_or, set, ap, arith, refl, sym, get_or-set_other, get_or-set_same, length-set}
use Rattle.qm_kinds.specs.declared.queue.Queue.{Queue}
use Rattle.qm_ready.specs.Rows.{Row}
use Rattle.qm_parts.specs.Rooms.{rooms_of}
use Rattle.qm_renewal.specs.Renewing.{room_of}
use Rattle.qm_parts.specs.Tables.{Tables}
use Rattle.qm_parts.proofs.KeptRows.{kept_wider, wider_set}
use Rattle.qm_parts.proofs.RowPlaces.{no_row, room_at}
use Rattle.qm_parts.proofs.Widening.{if_ok}
use Rattle.qm_parts.proofs.parts.Parts.widen_coming.Goals as goal

pub invariant_of-self : goal.invariant_of-self
invariant_of-self c =
    let t = c.self.inside.tables in
    let rows : List Row = c.self.inside.rows.items in
    let n = length c.queues-place.result.now in
    let same_n : n ≡ length t.queues = ap (λ (qs : List Queue). length qs) c.queues-place.ensures.queues in
    let inside : n < length rows = omega (arith, c.self.invariant.enough, ap (λ (t : Tables). t.spare_queues) c.self.view_is, c.requires, same_n) in
    kept_wider t rows (set rows n c.widen.new.row) c.self.inside.bounds.items c.self.inside.bounds.items c.self.inside.queue_room c.self.invariant
    (wider_set rows n c.index_mut.result.now c.widen.new.row inside c.index_mut.ensures.value
    (record { schedule = ap (λ (r : Row). r.schedule) c.widen.ensures.same; keys = ap (λ (r : Row). r.keys) c.widen.ensures.same; more = c.widen.ensures.no_less }))
    refl c.self.invariant.bounds

pub returns-clause-others : goal.returns-clause-others
returns-clause-others c place within =
    let t = c.self.inside.tables in
    let rows : List Row = c.self.inside.rows.items in
    let n = length c.queues-place.result.now in
    let same_n : n ≡ length t.queues = ap (λ (qs : List Queue). length qs) c.queues-place.ensures.queues in
    let inside : n < length rows = omega (arith, c.self.invariant.enough, ap (λ (t : Tables). t.spare_queues) c.self.view_is, c.requires, same_n) in
    let others : place < n = omega (arith, within, ap (λ (t : Tables). length t.queues) c.self.view_is, same_n) in
    room_at (set rows n c.widen.new.row) place no_row (omega (arith, others, inside, length-set rows n c.widen.new.row))
    ∙ ap room_of (get_or-set_other rows n place c.widen.new.row no_row (λ same. omega (arith, same, others)))
    ∙ sym (room_at rows place no_row (omega (arith, others, inside)))
    ∙ ap (λ (t : Tables). get_or t.rooms place 0) c.self.view_is

pub returns-clause-room : goal.returns-clause-room
returns-clause-room c =
    let t = c.self.inside.tables in
    let rows : List Row = c.self.inside.rows.items in
    let n = length c.queues-place.result.now in
    let same_n : n ≡ length t.queues = ap (λ (qs : List Queue). length qs) c.queues-place.ensures.queues in
    let inside : n < length rows = omega (arith, c.self.invariant.enough, ap (λ (t : Tables). t.spare_queues) c.self.view_is, c.requires, same_n) in
    if_ok c.widen.result
    (λ room.
    omega (
      arith,
      room,
      room_at (set rows n c.widen.new.row) n no_row (omega (arith, inside, length-set rows n c.widen.new.row)),
      ap room_of (get_or-set_same rows n c.widen.new.row no_row inside),
      ap (λ m. get_or (rooms_of (set rows n c.widen.new.row)) m 0) same_n,
    ))
    c.widen.ensures.ok
