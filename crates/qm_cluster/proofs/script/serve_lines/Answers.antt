use Rattle.std.proofs.Common.{◌≡◌, ◌+◌, ◌<◌, ◌∙◌, ℕ, List, [], drop, get_or, length, refl, sym, ap, subst, arith, slice_get, slice_set, Contains}
use Rattle.std.specs.List.{AllByRecursion}
use Rattle.std.proofs.lemmas.List.{drop_all, length-map, length-set}
use Rattle.std.proofs.lemmas.Option.{slice_get-get_or}
use Rattle.qm_history.specs.Common.{next_at, UserLine, lines_of}
use Rattle.qm_script.specs.ClusterLines.{user_line_view, user_lines_view}
use Rattle.qm_cluster.specs.Runs.{AllGo, AreOfNodes, AreReading, IsCluster, names_of, numbers_of, site_of, so_far}
use Rattle.qm_node.specs.Outside.{outside_at}
use Rattle.qm_node.specs.Sides.{side_of}
use Rattle.qm_node.proofs.Ends.{stop_on}
use Rattle.qm_cluster.proofs.Lifting.{some_same}
use Rattle.qm_cluster.proofs.Outing.{all_none}
use Rattle.qm_cluster.proofs.Sitting.{all_reading_wait, cluster_on, line_next, line_on, line_stops_on, lines_from, name_at, names_same, served_reading, turn_of}
use Rattle.qm_cluster.proofs.Working.{line_served}
use Rattle.qm_cluster.proofs.script.serve_lines.Goals as goal

pub lines-init : goal.lines-init
lines-init g c = record {
  last = 0;
  go = all_none g.S.Serve.meaning g.Y.Symbiont.meaning (so_far (numbers_of (user_lines_view c.args.lines.now)) 0)
      (site_of g.C.Clock.told c.args.manager.now (g.O.Sink.taken c.args.sink.now) c.args.seats.now c.args.stations.now) c.requires.serves c.requires.kept;
  cluster = c.requires.cluster;
  of_nodes = c.requires.of_nodes;
  reading = c.requires.reading;
  names = refl;
  sink = refl;
}

pub place_of-place-requires : goal.place_of-place-requires
place_of-place-requires g c =
    let line = c.line-item.result in
    let is = lines_from c.args.lines.now c.lines.line-index line c.lines-test.true c.line-item.is in
    (subst (λ (ls : List UserLine). AreOfNodes c.lines.seats ls) is c.lines.invariant.of_nodes).0

pub serve_part-requires-clause-can : goal.serve_part-requires-clause-can
serve_part-requires-clause-can g c =
    c.lines.invariant.cluster.can c.place_of-place.result (get_or c.lines.seats c.place_of-place.result c.index-seats-place.result)
    (slice_get-get_or c.lines.seats c.place_of-place.result c.index-seats-place.result c.place_of-place.ensures.within)

pub serve_part-requires-clause-next : goal.serve_part-requires-clause-next
serve_part-requires-clause-next g c =
    let line = c.line-item.result in
    let here = get_or c.lines.seats c.place_of-place.result c.index-seats-place.result in
    let rest = user_lines_view (drop (c.lines.line-index + 1) c.args.lines.now) in
    let from = lines_from c.args.lines.now c.lines.line-index line c.lines-test.true c.line-item.is in
    let at = slice_get-get_or c.lines.seats c.place_of-place.result c.index-seats-place.result c.place_of-place.ensures.within in
    let named = some_same (slice_get (names_of c.lines.seats) c.place_of-place.result) here.name line.node (name_at c.lines.seats c.place_of-place.result here at) c.place_of-place.ensures.name in
    turn_of _ (next_at here.live here.node.state here.node.state.stage) (user_line_view line) (lines_of here.name rest) (line_next (user_line_view line) rest here
    ((subst (λ (ls : List UserLine). AreReading ls c.lines.seats) from c.lines.invariant.reading) c.place_of-place.result here at) named) refl

pub returns-in-Err-clause-stops : goal.returns-in-Err-clause-stops
returns-in-Err-clause-stops g c =
    let line = c.line-item.result in
    let place = c.place_of-place.result in
    let here = get_or c.lines.seats c.place_of-place.result c.index-seats-place.result in
    let rest = user_lines_view (drop (c.lines.line-index + 1) c.args.lines.now) in
    let from = lines_from c.args.lines.now c.lines.line-index line c.lines-test.true c.line-item.is in
    let has : place < length c.lines.stations = omega (arith, c.place_of-place.ensures.within, c.lines.invariant.cluster.enough) in
    let at = slice_get-get_or c.lines.seats place c.index-seats-place.result c.place_of-place.ensures.within in
    let side = slice_get-get_or c.lines.stations place c.index-stations-place.result has in
    let station = get_or c.lines.stations place c.index-stations-place.result in
    let start = site_of g.C.Clock.told c.args.manager.now (g.O.Sink.taken c.args.sink.now) c.args.seats.now c.args.stations.now in
    let here_now = site_of g.C.Clock.told c.lines.manager (g.O.Sink.taken c.lines.sink) c.lines.seats c.lines.stations in
    let first = so_far (numbers_of (user_lines_view c.args.lines.now)) 0 in
    line_stops_on g.S.Serve.meaning g.Y.Symbiont.meaning g.C.Clock.told c.lines.manager c.serve_part.new.manager (g.O.Sink.taken c.lines.sink) (g.O.Sink.taken c.serve_part.new.sink) c.lines.seats c.lines.stations
    place here c.serve_part.new.seat station c.serve_part.new.station at side first start (user_line_view line) rest c.lines.invariant.last
    (slice_set c.lines.seats place c.serve_part.new.seat) c.in-Err.end
    (subst (λ (ls : List UserLine). AllGo g.S.Serve.meaning g.Y.Symbiont.meaning first (so_far (numbers_of ls) c.lines.invariant.last) start here_now) from c.lines.invariant.go)
    (all_reading_wait (user_lines_view (drop c.lines.line-index c.args.lines.now)) c.lines.seats c.lines.invariant.reading) c.in-Err.ensures.stops

pub lines-preserved : goal.lines-preserved
lines-preserved g c =
    let line = c.line-item.result in
    let place = c.place_of-place.result in
    let here = get_or c.lines.seats c.place_of-place.result c.index-seats-place.result in
    let there = c.serve_part.new.seat in
    let rest = user_lines_view (drop (c.lines.line-index + 1) c.args.lines.now) in
    let from = lines_from c.args.lines.now c.lines.line-index line c.lines-test.true c.line-item.is in
    let has : place < length c.lines.stations = omega (arith, c.place_of-place.ensures.within, c.lines.invariant.cluster.enough) in
    let at = slice_get-get_or c.lines.seats place c.index-seats-place.result c.place_of-place.ensures.within in
    let side = slice_get-get_or c.lines.stations place c.index-stations-place.result has in
    let station = get_or c.lines.stations place c.index-stations-place.result in
    let start = site_of g.C.Clock.told c.args.manager.now (g.O.Sink.taken c.args.sink.now) c.args.seats.now c.args.stations.now in
    let here_now = site_of g.C.Clock.told c.lines.manager (g.O.Sink.taken c.lines.sink) c.lines.seats c.lines.stations in
    let first = so_far (numbers_of (user_lines_view c.args.lines.now)) 0 in
    let named = some_same (slice_get (names_of c.lines.seats) place) here.name line.node (name_at c.lines.seats place here at) c.place_of-place.ensures.name in
    let reads = (c.lines.invariant.reading place here at).stage in
    let serves = line_served g.S.Serve.meaning g.Y.Symbiont.meaning place _ line.number here there
    (outside_at g.C.Clock.told c.lines.manager (g.O.Sink.taken c.lines.sink) station)
    (outside_at g.C.Clock.told c.serve_part.new.manager (g.O.Sink.taken c.serve_part.new.sink) c.serve_part.new.station) refl refl tt reads c.in-Ok.ensures.serves in
    let names = names_same c.lines.seats place here there at serves.name in
    record {
      last = place;
      go = line_on g.S.Serve.meaning g.Y.Symbiont.meaning g.C.Clock.told c.lines.manager c.serve_part.new.manager (g.O.Sink.taken c.lines.sink) (g.O.Sink.taken c.serve_part.new.sink) c.lines.seats c.lines.stations
          place here there station c.serve_part.new.station at side first start (user_line_view line) rest c.lines.invariant.last
          (subst (λ (ls : List UserLine). AllGo g.S.Serve.meaning g.Y.Symbiont.meaning first (so_far (numbers_of ls) c.lines.invariant.last) start here_now) from c.lines.invariant.go)
          serves;
      cluster = subst (λ (n : ℕ). IsCluster g.S.Serve.meaning c.serve_part.new.manager (slice_set c.lines.seats place there) n) (sym (length-set c.lines.stations place c.serve_part.new.station))
          (cluster_on g.S.Serve.meaning g.Y.Symbiont.meaning g.C.Clock.told c.lines.manager c.serve_part.new.manager (g.O.Sink.taken c.lines.sink) (g.O.Sink.taken c.serve_part.new.sink) c.lines.seats c.lines.stations
          place here there station c.serve_part.new.station at side line.number (length c.lines.stations) c.lines.invariant.cluster serves);
      of_nodes = subst (λ (ns : List (List ℕ)). AllByRecursion (λ (l : UserLine). Contains ns l.line.node) rest) (sym names)
          (subst (λ (ls : List UserLine). AreOfNodes c.lines.seats ls) from c.lines.invariant.of_nodes).1;
      reading = served_reading g.S.Serve.meaning g.Y.Symbiont.meaning g.C.Clock.told c.lines.manager c.serve_part.new.manager (g.O.Sink.taken c.lines.sink) (g.O.Sink.taken c.serve_part.new.sink) c.lines.seats c.lines.stations
          place here there station c.serve_part.new.station at side (user_line_view line) rest named c.lines.invariant.cluster.distinct
          (subst (λ (ls : List UserLine). AreReading ls c.lines.seats) from c.lines.invariant.reading) serves;
      names = names ∙ c.lines.invariant.names;
      sink = c.in-Ok.ensures.sink ∙ c.lines.invariant.sink;
    }

pub returns-clause-serves : goal.returns-clause-serves
returns-clause-serves g c =
    let start = site_of g.C.Clock.told c.args.manager.now (g.O.Sink.taken c.args.sink.now) c.args.seats.now c.args.stations.now in
    let new = site_of g.C.Clock.told c.lines.manager (g.O.Sink.taken c.lines.sink) c.lines.seats c.lines.stations in
    let first = so_far (numbers_of (user_lines_view c.args.lines.now)) 0 in
    let none : user_lines_view (drop c.lines.line-index c.args.lines.now) ≡ [] = ap user_lines_view (drop_all c.lines.line-index c.args.lines.now c.lines-test.false) in
    record {
      last = c.lines.invariant.last;
      go = subst (λ (ls : List UserLine). AllGo g.S.Serve.meaning g.Y.Symbiont.meaning first (so_far (numbers_of ls) c.lines.invariant.last) start new) none c.lines.invariant.go;
      cluster = subst (λ (n : ℕ). IsCluster g.S.Serve.meaning c.lines.manager c.lines.seats n) (sym (length-map c.lines.stations (side_of g.C.Clock.told))) c.lines.invariant.cluster;
      names = c.lines.invariant.names;
      reading = subst (λ (ls : List UserLine). AreReading ls c.lines.seats) none c.lines.invariant.reading;
    }

pub returns-in-Err-clause-sink : goal.returns-in-Err-clause-sink
returns-in-Err-clause-sink g c =
    stop_on c.in-Err.end (g.O.Sink.faults c.args.sink.now) (g.O.Sink.faults c.lines.sink) (g.O.Sink.faults c.serve_part.new.sink) c.lines.invariant.sink c.in-Err.ensures.sink

pub returns-clause-stops : goal.returns-clause-stops
returns-clause-stops g c = tt

pub returns-clause-sink : goal.returns-clause-sink
returns-clause-sink g c = c.lines.invariant.sink

pub returns-clause-undamaged : goal.returns-clause-undamaged
returns-clause-undamaged g c = λ tells. tt

pub returns-in-Err-clause-serves : goal.returns-in-Err-clause-serves
returns-in-Err-clause-serves g c = tt

pub returns-in-Err-clause-undamaged : goal.returns-in-Err-clause-undamaged
returns-in-Err-clause-undamaged g c = c.in-Err.ensures.undamaged
