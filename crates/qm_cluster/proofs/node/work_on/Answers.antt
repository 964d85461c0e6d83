use Rattle.std.proofs.Common.{◌≡◌, ◌∙◌, inl, inr, refl}
use Rattle.qm_node.specs.Outside.{outside_at}
use Rattle.qm_node.proofs.Made.{if_err, on_ok}
use Rattle.qm_cluster.proofs.Going.{fetch_next, fetch_why, nothing_next}
use Rattle.qm_cluster.proofs.Working.{runs_out, stops_working}
use Rattle.qm_cluster.proofs.node.work_on.Goals as goal

pub serve_part-requires-clause-follows : goal.serve_part-requires-clause-follows
serve_part-requires-clause-follows g c = c.requires.reading.lines_are

pub returns-in-Some-clause-runs : goal.returns-in-Some-clause-runs
returns-in-Some-clause-runs g c =
    let fetch = fetch_why c.in-Some.next (fetch_next c.args.seat.now c.in-Some.next c.requires.reading c.in-Some.ensures.next) in
    on_ok c.serve_part.result _ _ c.serve_part.ensures.serves (runs_out g.S.Serve.meaning g.Y.Symbiont.meaning c.args.node c.in-Some.next c.args.seat.now c.serve_part.new.seat (outside_at g.C.Clock.told c.args.manager.now (g.O.Sink.taken c.args.sink.now) c.args.station.now) (outside_at g.C.Clock.told c.serve_part.new.manager (g.O.Sink.taken c.serve_part.new.sink) c.serve_part.new.station) fetch)

pub returns-in-Some-clause-stops : goal.returns-in-Some-clause-stops
returns-in-Some-clause-stops g c =
    let fetch = fetch_why c.in-Some.next (fetch_next c.args.seat.now c.in-Some.next c.requires.reading c.in-Some.ensures.next) in
    if_err c.serve_part.result _ _ c.serve_part.ensures.stops (stops_working g.S.Serve.meaning g.Y.Symbiont.meaning c.args.node c.in-Some.next c.args.seat.now (outside_at g.C.Clock.told c.args.manager.now (g.O.Sink.taken c.args.sink.now) c.args.station.now) (outside_at g.C.Clock.told c.serve_part.new.manager (g.O.Sink.taken c.serve_part.new.sink) c.serve_part.new.station) fetch)
