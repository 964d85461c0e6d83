use Rattle.std.proofs.Common.{◌∙◌, ap, length, map, refl, subst, sym}
use Rattle.std.proofs.lemmas.List.{length-map}
use Rattle.qm_history.specs.Ends.{NoMemory}
use Rattle.qm_cluster.specs.Fresh.{each_lines}
use Rattle.qm_node.specs.Sides.{side_of}
use Rattle.qm_script.specs.ClusterLines.{user_lines_view}
use Rattle.qm_cluster.specs.Ends.{CountsSink, serving_end}
use Rattle.qm_serving.specs.Serving.{outside}
use Rattle.qm_chest.specs.At.{chest_disk, chest_names, chest_turns}
use Rattle.qm_serving.proofs.ClusterServing.{handed, none_serves}
use Rattle.qm_serving.proofs.cluster_serving.serve_by_each.Goals as goal

pub serve_own-requires-clause-own : goal.serve_own-requires-clause-own
serve_own-requires-clause-own g c κs within =
    sym (length-map c.in-Ok.own.items _) ∙ ap length c.in-Ok.ensures ∙ length-map c.names.result.now _ ∙ ap length c.names.ensures

pub returns-in-Ok-clause-serves : goal.returns-in-Ok-clause-serves
returns-in-Ok-clause-serves g c = λ disk opened.
    c.serve_own.ensures.serves disk (user_lines_view c.args.lines.now) (c.in-Ok.ensures ∙ ap (each_lines (user_lines_view c.args.lines.now)) c.names.ensures) opened

pub returns-in-Err-clause-serves : goal.returns-in-Err-clause-serves
returns-in-Err-clause-serves g c = λ disk opened.
    handed g.D.Disk.meaning g.Y.Symbiont.meaning disk (chest_names c.args.chest) (user_lines_view c.args.lines.now) (outside (chest_disk c.args.chest) (g.O.Sink.taken c.args.sink.now) (map (side_of g.C.Clock.told) c.args.stations.now)) (g.O.Sink.taken c.args.sink.now)
    (map (side_of g.C.Clock.told) c.args.stations.now) _ (chest_disk c.args.chest) c.left_at.result.disk (chest_turns c.args.chest) c.left_at.result.turns.items NoMemory (serving_end c.left_at.result.end)
    c.left_at.ensures.disk c.left_at.ensures.turns (ap serving_end c.left_at.ensures.end) refl
    (none_serves g.D.Disk.meaning g.Y.Symbiont.meaning c.nodes_leave_what_is_noted.ensures disk c.args.chest opened (c.opened_sites_stand_for_no_notes.ensures disk c.args.chest opened) (user_lines_view c.args.lines.now) (g.O.Sink.taken c.args.sink.now)
    (map (side_of g.C.Clock.told) c.args.stations.now))

pub returns-in-Err-clause-sink : goal.returns-in-Err-clause-sink
returns-in-Err-clause-sink g c = subst (λ e. CountsSink (serving_end e) (g.O.Sink.faults c.args.sink.now) (g.O.Sink.faults c.args.sink.now)) (sym c.left_at.ensures.end) refl
