use Rattle.std.proofs.Common.{◌∙◌, ap, length, refl}
use Rattle.qm_cluster.specs.Runs.{site_of}
use Rattle.qm_script.specs.ClusterLines.{user_lines_view}
use Rattle.qm_chest.specs.At.{chest_names, chest_turns}
use Rattle.qm_serving.proofs.Script.{cluster_ready, none_serves, seats_ready, stopped_serves, whole_serves}
use Rattle.qm_serving.proofs.in_order_serving.serve_own.Goals as goal

pub returns-in_default-clause-serves : goal.returns-in_default-clause-serves
returns-in_default-clause-serves g c = λ disk opened.
    none_serves g.D.Disk.meaning g.Y.Symbiont.meaning c.calls_are_noted.ensures.stands c.calls_are_noted.ensures.serves disk c.args.manager.now opened
    (user_lines_view c.args.lines.now) _ _

pub serve_script-requires-clause-cluster : goal.serve_script-requires-clause-cluster
serve_script-requires-clause-cluster g c =
    let script = user_lines_view c.args.lines.now in
    let seated = seats_ready script (chest_names c.args.manager.now) c.names.result.now c.args.own.items c.deref.result.now c.in-Ok.seats.items c.deref_mut.result.now c.in-Ok.ensures c.deref.ensures.value c.requires.own (c.names.ensures ∙ ap chest_names c.manager.ensures) c.deref_mut.ensures.value in
    cluster_ready g.D.Disk.meaning c.args.manager.now script c.deref_mut.result.now (length c.args.stations.now) c.requires.fresh seated c.requires.stations

pub serve_script-requires-clause-fresh : goal.serve_script-requires-clause-fresh
serve_script-requires-clause-fresh g c =
    let script = user_lines_view c.args.lines.now in
    let seated = seats_ready script (chest_names c.args.manager.now) c.names.result.now c.args.own.items c.deref.result.now c.in-Ok.seats.items c.deref_mut.result.now c.in-Ok.ensures c.deref.ensures.value c.requires.own (c.names.ensures ∙ ap chest_names c.manager.ensures) c.deref_mut.ensures.value in
    seated.fresh

pub returns-in-Ok-serve_script-clause-serves : goal.returns-in-Ok-serve_script-clause-serves
returns-in-Ok-serve_script-clause-serves g c = λ disk opened.
    let script = user_lines_view c.args.lines.now in
    let seated = seats_ready script (chest_names c.args.manager.now) c.names.result.now c.args.own.items c.deref.result.now c.in-Ok.seats.items c.deref_mut.result.now c.in-Ok.ensures c.deref.ensures.value c.requires.own (c.names.ensures ∙ ap chest_names c.manager.ensures) c.deref_mut.ensures.value in
    let old = site_of g.C.Clock.told c.args.manager.now (g.O.Sink.taken c.args.sink.now) c.deref_mut.result.now c.args.stations.now in
    let new = site_of g.C.Clock.told c.serve_script.new.manager (g.O.Sink.taken c.serve_script.new.sink) c.serve_script.new.seats c.serve_script.new.stations in
    whole_serves g.D.Disk.meaning g.Y.Symbiont.meaning c.calls_are_noted.ensures.stands c.calls_are_noted.ensures.serves disk c.args.manager.now opened script old new refl seated
    _ c.turns.result.now c.end_of_turns.ensures (c.turns.ensures ∙ ap chest_turns c.manager-in-Ok-serve_script.ensures) c.in-Ok-serve_script.ensures.serves

pub returns-clause-serves : goal.returns-clause-serves
returns-clause-serves g c = λ disk opened.
    let script = user_lines_view c.args.lines.now in
    let seated = seats_ready script (chest_names c.args.manager.now) c.names.result.now c.args.own.items c.deref.result.now c.in-Ok.seats.items c.deref_mut.result.now c.in-Ok.ensures c.deref.ensures.value c.requires.own (c.names.ensures ∙ ap chest_names c.manager.ensures) c.deref_mut.ensures.value in
    let old = site_of g.C.Clock.told c.args.manager.now (g.O.Sink.taken c.args.sink.now) c.deref_mut.result.now c.args.stations.now in
    let new = site_of g.C.Clock.told c.serve_script.new.manager (g.O.Sink.taken c.serve_script.new.sink) c.serve_script.new.seats c.serve_script.new.stations in
    stopped_serves g.D.Disk.meaning g.Y.Symbiont.meaning c.calls_are_noted.ensures.stands c.calls_are_noted.ensures.serves disk c.args.manager.now opened script old new refl seated
    _ c.in-Err.stopped c.from.ensures c.in-Err.ensures.stops c.in-Err.ensures.undamaged
