use Rattle.std.proofs.Common.{[]}
use Rattle.qm_script.specs.ClusterLines.{user_lines_view}
use Rattle.qm_cluster.specs.Runs.{numbers_of, site_of, so_far}
use Rattle.qm_node.proofs.Ends.{write_on}
use Rattle.qm_cluster.proofs.Final.{fresh_reading, script_served, script_stopped}
use Rattle.qm_cluster.proofs.Lifting.{all_stop_then, all_then}
use Rattle.qm_node.proofs.Made.{if_err, on_ok}
use Rattle.qm_cluster.proofs.script.serve_script.Goals as goal

pub serve_lines-requires-clause-reading : goal.serve_lines-requires-clause-reading
serve_lines-requires-clause-reading g c = fresh_reading _ c.args.seats.now c.requires.fresh

pub returns-in-Ok-clause-serves : goal.returns-in-Ok-clause-serves
returns-in-Ok-clause-serves g c =
    let m = g.S.Serve.meaning in
    let y = g.Y.Symbiont.meaning in
    let script = user_lines_view c.args.lines.now in
    let old = site_of g.C.Clock.told c.args.manager.now (g.O.Sink.taken c.args.sink.now) c.args.seats.now c.args.stations.now in
    let mid = site_of g.C.Clock.told c.serve_lines.new.manager (g.O.Sink.taken c.serve_lines.new.sink) c.serve_lines.new.seats c.serve_lines.new.stations in
    let new = site_of g.C.Clock.told c.run_nodes.new.manager (g.O.Sink.taken c.run_nodes.new.sink) c.run_nodes.new.seats c.run_nodes.new.stations in
    let lines = c.in-Ok.ensures.serves in
    on_ok c.run_nodes.result _ _ c.run_nodes.ensures.runs (λ runs.
    let rest = runs.go lines.last in
    script_served m y script rest.0 old new c.requires.fresh
    (all_then m y (so_far (numbers_of script) 0) (so_far [] lines.last) old mid lines.go (so_far [] rest.0) new rest.1) runs.through)

pub returns-in-Ok-clause-stops : goal.returns-in-Ok-clause-stops
returns-in-Ok-clause-stops g c =
    let m = g.S.Serve.meaning in
    let y = g.Y.Symbiont.meaning in
    let script = user_lines_view c.args.lines.now in
    let old = site_of g.C.Clock.told c.args.manager.now (g.O.Sink.taken c.args.sink.now) c.args.seats.now c.args.stations.now in
    let mid = site_of g.C.Clock.told c.serve_lines.new.manager (g.O.Sink.taken c.serve_lines.new.sink) c.serve_lines.new.seats c.serve_lines.new.stations in
    let new = site_of g.C.Clock.told c.run_nodes.new.manager (g.O.Sink.taken c.run_nodes.new.sink) c.run_nodes.new.seats c.run_nodes.new.stations in
    let lines = c.in-Ok.ensures.serves in
    if_err c.run_nodes.result _ _ c.run_nodes.ensures.stops (λ stopped stops.
    script_stopped m y script old new stopped c.requires.fresh
    (all_stop_then m y (so_far (numbers_of script) 0) (so_far [] lines.last) old mid lines.go new stopped (stops lines.last)))

pub returns-in-Err-clause-stops : goal.returns-in-Err-clause-stops
returns-in-Err-clause-stops g c =
    script_stopped g.S.Serve.meaning g.Y.Symbiont.meaning (user_lines_view c.args.lines.now)
    (site_of g.C.Clock.told c.args.manager.now (g.O.Sink.taken c.args.sink.now) c.args.seats.now c.args.stations.now)
    (site_of g.C.Clock.told c.serve_lines.new.manager (g.O.Sink.taken c.serve_lines.new.sink) c.serve_lines.new.seats c.serve_lines.new.stations)
    c.in-Err.end c.requires.fresh c.in-Err.ensures.stops

pub returns-in-Ok-clause-sink : goal.returns-in-Ok-clause-sink
returns-in-Ok-clause-sink g c =
    write_on c.run_nodes.result (g.O.Sink.faults c.args.sink.now) (g.O.Sink.faults c.serve_lines.new.sink) (g.O.Sink.faults c.run_nodes.new.sink) c.in-Ok.ensures.sink c.run_nodes.ensures.sink
