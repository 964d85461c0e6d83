use Rattle.std.proofs.Common.{◌∙◌, length, map, ap, arith}
use Rattle.std.specs.List.{range_with_len}
use Rattle.std.proofs.lemmas.List.{length-map}
use Rattle.std.proofs.lemmas.List.FromFn.{length-range_with_len}
use Rattle.qm_cluster.specs.Through.{first_at}
use Rattle.qm_cluster.proofs.turns.make_turns.Goals as goal

pub seats_of-seats-requires-clause-room : goal.seats_of-seats-requires-clause-room
seats_of-seats-requires-clause-room g c =
    let opened = c.in-Ok-open.ensures.opened.1 in
    let count = ap length opened ∙ length-map (range_with_len 0 (length c.args.names.now)) _ ∙ length-range_with_len 0 (length c.args.names.now) in
    let room = c.in-Ok.ensures.capacity in
    omega (arith, count, room)

pub end_turns-requires-clause-seats : goal.end_turns-requires-clause-seats
end_turns-requires-clause-seats g c κs within = c.seats_of-seats.ensures ∙ ap (map first_at) c.in-Ok-open.ensures.opened.1

pub end_turns-requires-clause-passes : goal.end_turns-requires-clause-passes
end_turns-requires-clause-passes g c κs within = c.in-Ok-open.ensures.opened.0
