use Rattle.std.proofs.Common.{◌≡◌, ◌∙◌, [], ◌∷◌, IsTrue, List, length, map, ap, sym, refl, subst, rules}
use Rattle.qm_chest.specs.At.{chest_names}
use Rattle.qm_cluster.specs.Fresh.{own_view}
use Rattle.qm_cluster.specs.Gathered.{text_left}
use Rattle.qm_node.specs.Sides.{side_of}
use Rattle.qm_serving.proofs.Begun.{begins_sound}
use Rattle.qm_serving.proofs.ClusterServing.{have_run, if_ok, none_run}
use Rattle.qm_serving.proofs.Opened.{stands_first}
use Rattle.qm_serving.proofs.cluster_running.run_nodes.Goals as goal

pub make_turns-requires-clause-sound : goal.make_turns-requires-clause-sound
make_turns-requires-clause-sound g c κs within =
    begins_sound g.D.Disk.meaning g.J.Begins.began c.args.chest c.requires.began (length c.args.names.now) (ap length c.requires.names)
    (λ w stands node low. c.nodes_begin_live.ensures.begins c.requires.opened.0 c.args.chest w c.requires.opened.1 stands node low)

pub make_turns-requires-clause-new : goal.make_turns-requires-clause-new
make_turns-requires-clause-new g c κs within = c.requires.opened.1.fresh.turns

pub make_turns-requires-clause-serves : goal.make_turns-requires-clause-serves
make_turns-requires-clause-serves g c κs within = c.requires.opened.1.fresh.serving

pub returns-then-is_empty-clause-ran : goal.returns-then-is_empty-clause-ran
returns-then-is_empty-clause-ran g c =
    let none : length c.args.names.now ≡ 0 = search rules in
    none_run g.D.Disk.meaning g.Y.Symbiont.meaning (chest_names c.args.chest) (own_view c.args.lines.now) c.args.chest (map text_left c.new.result.items) (map (side_of g.C.Clock.told) c.args.stations.now)
    (map (side_of g.C.Clock.told) c.args.stations.now) (ap length (sym c.requires.names) ∙ none) (ap (map text_left) c.new.ensures.items)
    (stands_first g.D.Disk.meaning c.requires.opened.0 c.args.chest c.requires.opened.1)

pub returns-clause-ran : goal.returns-clause-ran
returns-clause-ran g c =
    if_ok c.make_turns.result _ _ c.make_turns.ensures.made (λ made h.
    have_run g.D.Disk.meaning g.Y.Symbiont.meaning c.calls_are_noted.ensures.stands c.calls_are_noted.ensures.serves c.requires.opened.0 c.args.chest c.requires.opened.1 g.J.Begins.began c.args.names.now
    (own_view c.args.lines.now) made.manager (map text_left made.texts.items) (map (side_of g.C.Clock.told) c.args.stations.now) (map (side_of g.C.Clock.told) c.make_turns.new.stations) c.requires.began c.requires.names h)
