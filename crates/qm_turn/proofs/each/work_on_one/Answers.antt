use Rattle.std.proofs.Common.{◌<◌, length, subst, add-zero, arith, rules, slice_index_or}
use Rattle.qm_turn.proofs.Halves.{get_first}
use Rattle.qm_turn.proofs.each.work_on_one.Goals as goal

pub work-requires : goal.work-requires
work-requires g c =
    let first = c.index-firsts-0.result in
    let second = c.index-seconds-0.result in
    let some : 0 < length c.args.firsts.now = search rules in
    let both = c.requires.can.both in
    subst (λ n. g.W.Work.can_work c.args.work.now n (slice_index_or c.args.firsts.now 0 first) (slice_index_or c.args.seconds.now 0 second)) (add-zero c.args.place)
    (c.requires.can.each 0 (slice_index_or c.args.firsts.now 0 first) (slice_index_or c.args.seconds.now 0 second) (get_first c.args.firsts.now first some) (get_first c.args.seconds.now second (omega (arith, some, both))))
