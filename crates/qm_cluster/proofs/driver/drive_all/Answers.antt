use Rattle.std.proofs.Common.{ap, length}
use Rattle.qm_history.specs.Chest.{turns_kept}
use Rattle.qm_cluster.specs.Fresh.{own_view}
use Rattle.qm_cluster.specs.Sharing.{MayBegin}
use Rattle.qm_node.specs.Sides.{side_of}
use Rattle.qm_cluster.specs.Through.{is_at}
use Rattle.qm_cluster.proofs.Together.{all_ready, all_through}
use Rattle.qm_cluster.proofs.driver.drive_all.Goals as goal

pub returns : goal.returns
returns g c =
    all_through g.Y.Symbiont.meaning g.S.Serve.meaning.tells (MayBegin g.S.Serve.meaning g.J.Begins.began) turns_kept is_at (side_of g.C.Clock.told) c.args.turnstile.now.place c.args.names.now (own_view c.args.lines.now)
    c.args.seats.now c.work_on_each.new.firsts c.args.stations.now c.work_on_each.new.seconds c.work_on_each.ensures c.requires.seats c.requires.new

pub work_on_each-requires-clause-can : goal.work_on_each-requires-clause-can
work_on_each-requires-clause-can g c κs within =
    all_ready g.S.Serve.meaning g.J.Begins.began (λ seat. seat.pass) (λ seat. seat.text.taken) c.args.turnstile.now.place (length c.args.names.now) (length c.args.lines.now) c.args.seats.now c.args.stations.now
    c.requires.seats c.requires.stations c.requires.few c.requires.lines (λ k seat at. (ap (λ a. a.known) (c.requires.new k seat at), ap (λ a. a.text) (c.requires.new k seat at))) c.requires.there c.requires.sound
