use Rattle.std.proofs.Common.{◌≡◌, ◌+◌, ◌≤◌, ◌∙◌, length, get_or, count_by, ap, arith, subst, sym}
use Rattle.qm_parts.specs.Rooms.{CanPut, is_home, reach}
use Rattle.qm_parts.specs.Tables.{Tables}
use Rattle.qm_parts.proofs.parts.Parts.reserve_queue.Goals as goal

pub returns-clause-ok : goal.returns-clause-ok
returns-clause-ok c =
    let q = c.args.queue.now in
    let jobs = c.count_at_home-jobs.result in
    let before = c.widen_targets.new.self in
    let here : jobs ≡ count_by (is_home q.name) before.entries = c.count_at_home-jobs.ensures ∙ ap (λ (t : Tables). count_by (is_home q.name) t.entries) (sym c.widen_targets.ensures.tables) in
    let room = subst (λ (t : Tables). reach t.queues t.entries q + jobs ≤ get_or t.rooms (length t.queues) 0) c.widen_coming.ensures.tables c.in_ok-widen_coming.ensures.room in
    subst (CanPut q) (sym c.widen_coming.ensures.tables) (record {
      room = omega (arith, c.in_ok-reserve_row.ensures.ok, ap (λ (t : Tables). t.spare_queues) c.widen_targets.ensures.tables);
      places = λ place p within is. omega (arith, c.in_ok-widen_targets.ensures.places place p within is, c.widen_coming.ensures.others place within, here);
      row = λ absent. omega (arith, room, here);
    })
