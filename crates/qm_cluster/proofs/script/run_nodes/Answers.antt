use Rattle.std.proofs.Common.{◌<◌, ◌∙◌, ℕ, [], length, get_or, refl, sym, subst, arith, slice_set, length-set}
use Rattle.std.proofs.lemmas.Option.{slice_get-get_or}
use Rattle.qm_cluster.specs.Runs.{IsCluster, site_of, so_far}
use Rattle.qm_node.proofs.Ends.{stop_on}
use Rattle.qm_cluster.proofs.Outing.{all_none, out_cluster, out_on, out_stops_on, out_waits, reading_next, through_next}
use Rattle.qm_cluster.proofs.Sitting.{names_same}
use Rattle.qm_cluster.proofs.script.run_nodes.Goals as goal

pub nodes-init : goal.nodes-init
nodes-init g c = record {
  go = λ last. (
    last,
    all_none g.S.Serve.meaning g.Y.Symbiont.meaning (so_far [] last) (site_of g.C.Clock.told c.args.manager.now (g.O.Sink.taken c.args.sink.now) c.args.seats.now c.args.stations.now)
        c.requires.serves c.requires.kept,
  );
  cluster = c.requires.cluster;
  through = λ node seat below is. absurd (omega (arith, below));
  reading = λ node seat above is. c.requires.reading node seat is;
  names = refl;
  sink = refl;
}

pub work_on-requires-clause-can : goal.work_on-requires-clause-can
work_on-requires-clause-can g c =
    let within : c.nodes.place < length c.nodes.seats = omega (arith, c.nodes-test.true, c.nodes.auto.place-end, c.nodes.auto.seats) in
    c.nodes.invariant.cluster.can c.nodes.place (get_or c.nodes.seats c.nodes.place c.index-seats-place.result)
    (slice_get-get_or c.nodes.seats c.nodes.place c.index-seats-place.result within)

pub work_on-requires-clause-reading : goal.work_on-requires-clause-reading
work_on-requires-clause-reading g c =
    let within : c.nodes.place < length c.nodes.seats = omega (arith, c.nodes-test.true, c.nodes.auto.place-end, c.nodes.auto.seats) in
    c.nodes.invariant.reading c.nodes.place (get_or c.nodes.seats c.nodes.place c.index-seats-place.result) (omega arith)
    (slice_get-get_or c.nodes.seats c.nodes.place c.index-seats-place.result within)

pub returns-in-Err-clause-stops : goal.returns-in-Err-clause-stops
returns-in-Err-clause-stops g c = λ last.
    let within : c.nodes.place < length c.nodes.seats = omega (arith, c.nodes-test.true, c.nodes.auto.place-end, c.nodes.auto.seats) in
    let has : c.nodes.place < length c.nodes.stations = omega (arith, within, c.nodes.invariant.cluster.enough) in
    let at = slice_get-get_or c.nodes.seats c.nodes.place c.index-seats-place.result within in
    let here = get_or c.nodes.seats c.nodes.place c.index-seats-place.result in
    let side = slice_get-get_or c.nodes.stations c.nodes.place c.index-stations-place.result has in
    let station = get_or c.nodes.stations c.nodes.place c.index-stations-place.result in
    let start = site_of g.C.Clock.told c.args.manager.now (g.O.Sink.taken c.args.sink.now) c.args.seats.now c.args.stations.now in
    let before = c.nodes.invariant.go last in
    out_stops_on g.S.Serve.meaning g.Y.Symbiont.meaning g.C.Clock.told c.nodes.manager c.work_on.new.manager (g.O.Sink.taken c.nodes.sink) (g.O.Sink.taken c.work_on.new.sink) c.nodes.seats c.nodes.stations
    c.nodes.place here c.work_on.new.seat station c.work_on.new.station at side (so_far [] last) start before.0
    (slice_set c.nodes.seats c.nodes.place c.work_on.new.seat) c.in-Err.end before.1 c.nodes.invariant.through (out_waits c.nodes.place c.nodes.seats c.nodes.invariant.through c.nodes.invariant.reading)
    c.in-Err.ensures.stops

pub nodes-preserved : goal.nodes-preserved
nodes-preserved g c =
    let within : c.nodes.place < length c.nodes.seats = omega (arith, c.nodes-test.true, c.nodes.auto.place-end, c.nodes.auto.seats) in
    let has : c.nodes.place < length c.nodes.stations = omega (arith, within, c.nodes.invariant.cluster.enough) in
    let at = slice_get-get_or c.nodes.seats c.nodes.place c.index-seats-place.result within in
    let here = get_or c.nodes.seats c.nodes.place c.index-seats-place.result in
    let side = slice_get-get_or c.nodes.stations c.nodes.place c.index-stations-place.result has in
    let station = get_or c.nodes.stations c.nodes.place c.index-stations-place.result in
    let start = site_of g.C.Clock.told c.args.manager.now (g.O.Sink.taken c.args.sink.now) c.args.seats.now c.args.stations.now in
    let seats = slice_set c.nodes.seats c.nodes.place c.work_on.new.seat in
    record {
      go = λ last.
          let before = c.nodes.invariant.go last in
          out_on g.S.Serve.meaning g.Y.Symbiont.meaning g.C.Clock.told c.nodes.manager c.work_on.new.manager (g.O.Sink.taken c.nodes.sink) (g.O.Sink.taken c.work_on.new.sink) c.nodes.seats c.nodes.stations
          c.nodes.place here c.work_on.new.seat station c.work_on.new.station at side (so_far [] last) start before.0 before.1 c.nodes.invariant.through
          c.in-Ok.ensures.runs;
      cluster = subst (λ (n : ℕ). IsCluster g.S.Serve.meaning c.work_on.new.manager seats n) (sym (length-set c.nodes.stations c.nodes.place c.work_on.new.station))
          (out_cluster g.S.Serve.meaning g.Y.Symbiont.meaning g.C.Clock.told c.nodes.manager c.work_on.new.manager (g.O.Sink.taken c.nodes.sink) (g.O.Sink.taken c.work_on.new.sink) c.nodes.seats c.nodes.stations
          c.nodes.place here c.work_on.new.seat station c.work_on.new.station at side (length c.nodes.stations) c.nodes.invariant.cluster c.in-Ok.ensures.runs);
      through = through_next c.nodes.place c.nodes.seats here c.work_on.new.seat at c.nodes.invariant.through c.in-Ok.ensures.runs.over;
      reading = reading_next c.nodes.place c.nodes.seats c.work_on.new.seat c.nodes.invariant.reading;
      names = names_same c.nodes.seats c.nodes.place here c.work_on.new.seat at c.in-Ok.ensures.runs.name ∙ c.nodes.invariant.names;
      sink = c.in-Ok.ensures.sink ∙ c.nodes.invariant.sink;
    }

pub returns-in-Err-clause-sink : goal.returns-in-Err-clause-sink
returns-in-Err-clause-sink g c =
    stop_on c.in-Err.end (g.O.Sink.faults c.args.sink.now) (g.O.Sink.faults c.nodes.sink) (g.O.Sink.faults c.work_on.new.sink) c.nodes.invariant.sink c.in-Err.ensures.sink

pub returns-clause-stops : goal.returns-clause-stops
returns-clause-stops g c = tt

pub returns-clause-sink : goal.returns-clause-sink
returns-clause-sink g c = c.nodes.invariant.sink

pub returns-clause-undamaged : goal.returns-clause-undamaged
returns-clause-undamaged g c = λ tells. tt

pub returns-in-Err-clause-runs : goal.returns-in-Err-clause-runs
returns-in-Err-clause-runs g c = tt

pub returns-in-Err-clause-undamaged : goal.returns-in-Err-clause-undamaged
returns-in-Err-clause-undamaged g c = c.in-Err.ensures.undamaged
