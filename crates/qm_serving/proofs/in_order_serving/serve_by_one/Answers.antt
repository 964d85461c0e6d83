use Rattle.std.proofs.Common.{◌∙◌, ap, map, subst}
use Rattle.qm_chest.specs.At.{chest_disk, chest_names, chest_turns}
use Rattle.qm_chest.specs.Opening.{IsOpened}
use Rattle.qm_chest.specs.declared.chest.Chest.{Chest}
use Rattle.qm_cluster.specs.Ends.{serving_end}
use Rattle.qm_node.specs.Sides.{side_of}
use Rattle.qm_script.specs.ClusterLines.{user_lines_view}
use Rattle.qm_serving.specs.Serving.{Serves, outside}
use Rattle.qm_serving.proofs.Script.{handed_on}
use Rattle.qm_serving.proofs.in_order_serving.serve_by_one.Goals as goal

pub returns-clause-serves : goal.returns-clause-serves
returns-clause-serves g c = λ disk opened.
    let begun = c.new-manager.result in
    let then = c.serve_nodes-end.new.manager in
    let script = user_lines_view c.args.lines.now in
    let taken = g.O.Sink.taken c.args.sink.now in
    let taken' = g.O.Sink.taken c.serve_nodes-end.new.sink in
    let sides = map (side_of g.C.Clock.told) c.args.stations.now in
    let sides' = map (side_of g.C.Clock.told) c.serve_nodes-end.new.stations in
    subst
    (λ (s : Chest _). IsOpened g.D.Disk.meaning disk s → Serves g.D.Disk.meaning g.Y.Symbiont.meaning disk (chest_names s) script (outside (chest_disk s) taken sides)
    (outside c.left_at.result.disk taken' sides') c.left_at.result.turns.items (serving_end c.left_at.result.end))
    c.new-manager.ensures
    (λ begins. handed_on g.D.Disk.meaning g.Y.Symbiont.meaning disk (chest_names begun) script (outside (chest_disk begun) taken sides) (chest_disk then) c.left_at.result.disk
    taken' sides' (chest_turns then) c.left_at.result.turns.items c.serve_nodes-end.result c.left_at.result.end
    (c.left_at.ensures.disk ∙ ap chest_disk c.into_manager.ensures) (c.left_at.ensures.turns ∙ ap chest_turns c.into_manager.ensures) c.left_at.ensures.end (c.serve_nodes-end.ensures.serves disk begins))
    opened
