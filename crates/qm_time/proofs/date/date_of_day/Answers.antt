use Rattle.std.proofs.Common.{arith, w64, ◌∙◌, pos, ◌<◌, ◌^◌}
use Rattle.std.proofs.lemmas.Int.{to_z_pos}
use Rattle.jiff.proofs.SpanFacts.{date_add-days, can_add-days}
use Rattle.qm_time.proofs.DateLemmas.{same_date, in_calendar}
use Rattle.qm_time.proofs.date.date_of_day.Goals as goal

pub add-requires : goal.add-requires
add-requires c =
    let small : c.args.day < 2 ^ 63 = omega (arith, c.requires) in
    let only = rw (to_z_pos w64 c.args.day small) at c.days.ensures in
    (can_add-days c.date.result (pos c.args.day) c.days.result only).1 (in_calendar c.args.day c.date.result c.requires c.date.ensures)

pub returns : goal.returns
returns c =
    let small : c.args.day < 2 ^ 63 = omega (arith, c.requires) in
    let only = rw (to_z_pos w64 c.args.day small) at c.days.ensures in
    same_date c.args.day c.date.result c.add.result c.requires c.date.ensures (c.add.ensures ∙ date_add-days c.date.result (pos c.args.day) c.days.result only)
