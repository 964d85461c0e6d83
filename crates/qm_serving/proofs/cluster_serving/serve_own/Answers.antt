use Rattle.std.proofs.Common.{◌≡◌, ◌++◌, ◌∙◌, ap, length, map, refl, subst, sym, rules}
use Rattle.std.proofs.lemmas.List.{length-map}
use Rattle.qm_history.specs.Ends.{NoMemory, texts_printed}
use Rattle.qm_cluster.specs.Fresh.{own_view}
use Rattle.qm_node.specs.Sides.{side_of}
use Rattle.qm_cluster.specs.Ends.{CountsSink, serving_end}
use Rattle.qm_serving.specs.Serving.{outside}
use Rattle.qm_chest.specs.At.{chest_disk, chest_names, chest_turns}
use Rattle.qm_cluster.specs.Gathered.{text_left}
use Rattle.qm_cluster.specs.Printing.{turns_line}
use Rattle.qm_cluster.specs.ClusterEnding.{IsToldBy, worst_of}
use Rattle.qm_serving.proofs.ClusterServing.{front_at, handed, none_serves, said, serves}
use Rattle.qm_serving.proofs.cluster_serving.serve_own.Goals as goal

pub returns-in_default-clause-serves : goal.returns-in_default-clause-serves
returns-in_default-clause-serves g c = λ disk script own opened.
    handed g.D.Disk.meaning g.Y.Symbiont.meaning disk (chest_names c.args.chest) script (outside (chest_disk c.args.chest) (g.O.Sink.taken c.args.sink.now) (map (side_of g.C.Clock.told) c.args.stations.now)) (g.O.Sink.taken c.args.sink.now)
    (map (side_of g.C.Clock.told) c.args.stations.now) _ (chest_disk c.args.chest) c.left_at.result.disk (chest_turns c.args.chest) c.left_at.result.turns.items NoMemory (serving_end c.left_at.result.end)
    c.left_at.ensures.disk c.left_at.ensures.turns (ap serving_end c.left_at.ensures.end) refl
    (none_serves g.D.Disk.meaning g.Y.Symbiont.meaning c.nodes_leave_what_is_noted.ensures disk c.args.chest opened (c.opened_sites_stand_for_no_notes.ensures disk c.args.chest opened) script (g.O.Sink.taken c.args.sink.now)
    (map (side_of g.C.Clock.told) c.args.stations.now))

pub returns-in_default-clause-sink : goal.returns-in_default-clause-sink
returns-in_default-clause-sink g c = subst (λ e. CountsSink (serving_end e) (g.O.Sink.faults c.args.sink.now) (g.O.Sink.faults c.args.sink.now)) (sym c.left_at.ensures.end) refl

pub returns-in-Ok-run_nodes-clause-sink : goal.returns-in-Ok-run_nodes-clause-sink
returns-in-Ok-run_nodes-clause-sink g c =
    let side = side_of g.C.Clock.told in
    let chest = c.args.chest in
    let names = chest_names chest in
    let left = c.in-Ok-run_nodes.made in
    let texts = map text_left left.texts.items in
    let front = c.split_at_mut-stations.result.0.now in
    let back = c.split_at_mut-stations.result.1.now in
    let taken = g.O.Sink.taken c.args.sink.now in
    let then = g.O.Sink.taken c.tell.new.sink in
    let before = g.O.Sink.faults c.args.sink.now in
    let after = g.O.Sink.faults c.tell.new.sink in
    let end = serving_end c.tell.result.end in
    let called : c.deref-in-Ok-run_nodes.result.now ≡ names = search rules in
    let is_told = subst (λ ns. IsToldBy (worst_of texts) taken then before after (texts_printed (turns_line ns (chest_turns left.manager)) texts) (chest_turns left.manager) end) called c.tell.ensures.told in
    (said g.D.Disk.meaning g.Y.Symbiont.meaning c.nodes_leave_what_is_noted.ensures c.requires.opened.0 chest c.requires.opened.1 left.manager left.texts.items (own_view c.deref-2.result.now) (map side front)
    (map side c.run_nodes.new.stations) c.in-Ok-run_nodes.ensures.ran taken then before after end is_told).sink

pub returns-in-Ok-run_nodes-clause-serves : goal.returns-in-Ok-run_nodes-clause-serves
returns-in-Ok-run_nodes-clause-serves g c = λ disk script own opened.
    let side = side_of g.C.Clock.told in
    let chest = c.args.chest in
    let names = chest_names chest in
    let left = c.in-Ok-run_nodes.made in
    let texts = map text_left left.texts.items in
    let front = c.split_at_mut-stations.result.0.now in
    let back = c.split_at_mut-stations.result.1.now in
    let taken = g.O.Sink.taken c.args.sink.now in
    let then = g.O.Sink.taken c.tell.new.sink in
    let before = g.O.Sink.faults c.args.sink.now in
    let after = g.O.Sink.faults c.tell.new.sink in
    let end = serving_end c.tell.result.end in
    let called : c.deref-in-Ok-run_nodes.result.now ≡ names = search rules in
    let is_told = subst (λ ns. IsToldBy (worst_of texts) taken then before after (texts_printed (turns_line ns (chest_turns left.manager)) texts) (chest_turns left.manager) end) called c.tell.ensures.told in
    let wide : length front ≡ length names = search rules in
    let stay : length c.run_nodes.new.stations ≡ length front = search rules in
    let sides = map side c.args.stations.now in
    let sides' = map side (c.run_nodes.new.stations ++ back) in
    handed g.D.Disk.meaning g.Y.Symbiont.meaning disk names script (outside (chest_disk chest) taken sides) then sides' sides' (chest_disk left.manager) c.tell.result.disk (chest_turns left.manager) c.tell.result.turns.items end end
    c.tell.ensures.disk c.tell.ensures.turns refl refl
    (serves g.D.Disk.meaning g.Y.Symbiont.meaning c.nodes_leave_what_is_noted.ensures disk chest opened left.manager left.texts.items (own_view c.deref-2.result.now) (map side front) (map side c.run_nodes.new.stations)
    c.in-Ok-run_nodes.ensures.ran taken then before after end is_told c.nodes_keep_their_names.ensures.names c.nodes_begin_live.ensures.sound c.openings_keep_worlds.ensures script
    (ap own_view c.deref-2.ensures.value ∙ own) (length-map front side ∙ wide) (length-map c.run_nodes.new.stations side ∙ stay ∙ wide) sides sides'
    (λ k z low there. front_at side c.args.stations.now front back (length names) k z c.split_at_mut-stations.ensures.value wide low there)
    (λ k z low there. front_at side (c.run_nodes.new.stations ++ back) c.run_nodes.new.stations back (length names) k z refl (stay ∙ wide) low there))

pub returns-clause-serves : goal.returns-clause-serves
returns-clause-serves g c = λ disk script own opened.
    let side = side_of g.C.Clock.told in
    let chest = c.args.chest in
    let taken = g.O.Sink.taken c.args.sink.now in
    let sides = map side c.args.stations.now in
    let back = c.split_at_mut-stations.result.1.now in
    let none = c.in-Err.ensures.none in
    let left = c.left_at-in-Err in
    handed g.D.Disk.meaning g.Y.Symbiont.meaning disk (chest_names chest) script (outside (chest_disk chest) taken sides) taken sides (map side (c.run_nodes.new.stations ++ back)) (chest_disk chest) left.result.disk
    (chest_turns chest) left.result.turns.items NoMemory (serving_end left.result.end) (left.ensures.disk ∙ ap chest_disk none.0) (left.ensures.turns ∙ ap chest_turns none.0) (ap serving_end left.ensures.end)
    (ap (map side) (ap (λ l. l ++ back) none.1 ∙ sym c.split_at_mut-stations.ensures.value))
    (none_serves g.D.Disk.meaning g.Y.Symbiont.meaning c.nodes_leave_what_is_noted.ensures disk chest opened (c.opened_sites_stand_for_no_notes.ensures disk chest opened) script taken sides)
