use Rattle.std.proofs.Common.{◌≡◌, ◌<◌, ◌≤◌, ◌++◌, ◌∷◌, [], List, length, get_or, ap, arith, subst, sym, ◌∙◌}
use Rattle.std.proofs.lemmas.List.{get_or_default, length-append}
use Rattle.qm_kinds.specs.declared.queue.Queue.{Queue}
use Rattle.qm_ready.specs.Rows.{Row}
use Rattle.qm_parts.specs.Rooms.{reach, rooms_of}
use Rattle.qm_parts.proofs.RowPlaces.{row_more}
use Rattle.qm_parts.proofs.parts.add_rows.Goals as goal

pub loop-queue-preserved : goal.loop-queue-preserved
loop-queue-preserved c =
    let t = c.args.tables.now in
    let i = c.loop-queue.queue-index in
    let row : Row = c.in_ok-row.row in
    let old : List Row = c.loop-queue.rows.items in
    let pushed : c.push.new.self.items ≡ old ++ row ∷ [] = c.in_ok-push.ensures.items in
    let within = subst (λ (qs : List Queue). i < length qs) c.queues-queue-items.ensures.queues c.loop-queue-test.true in
    let is = subst (λ (qs : List Queue). c.queue-item.result ≡ get_or qs i c.queue-item.result) c.queues-queue-items.ensures.queues c.queue-item.is in
    record {
      count = omega (arith, ap (λ (rows : List Row). length rows) pushed, length-append old (row ∷ []), c.loop-queue.invariant.count);
      room = λ k q below.
          subst (λ (rows : List Row). reach t.queues t.entries (get_or t.queues k q) ≤ get_or (rooms_of rows) k 0) (sym pushed)
          (row_more (reach t.queues t.entries) t.queues old row i c.loop-queue.invariant.count c.loop-queue.invariant.room
          (λ p. omega (arith, c.in_ok-row.ensures, c.reach.ensures, ap (reach t.queues t.entries) (is ∙ get_or_default t.queues i c.queue-item.result p within))) k q below);
    }

pub returns-clause-room : goal.returns-clause-room
returns-clause-room c place q within = c.loop-queue.invariant.room place q (omega (arith, within, c.loop-queue-test.false, ap (λ (qs : List Queue). length qs) c.queues-queue-items.ensures.queues))
