use Rattle.std.proofs.Common.{◌≡◌, ◌∙◌, sym, ap, subst, take}
use Rattle.qm_history.specs.Common.{System, AreNodes}
use Rattle.qm_image.specs.Image.{system_of}
use Rattle.qm_restore.specs.Restoring.{Stands}
use Rattle.qm_restore.specs.Site.{new_system}
use Rattle.qm_restore.proofs.Going.{rows_stand}
use Rattle.qm_restore.proofs.restoring.restore.Goals as goal

pub new_image-requires : goal.new_image-requires
new_image-requires g c = subst AreNodes (sym c.deref.ensures.value) c.in_ok-nodes.ensures.rows.proper

pub restore_records-requires-clause-stands : goal.restore_records-requires-clause-stands
restore_records-requires-clause-stands g c =
    let first : system_of c.in_ok-image.image ≡ new_system c.in_ok-nodes.nodes.items = c.in_ok-image.ensures.is ∙ ap new_system c.deref.ensures.value in
    subst (λ (s : System). Stands (take 3 (g.B.Bodies.bodies c.args.log.now)) s) (sym first) (rows_stand (g.B.Bodies.bodies c.args.log.now) c.in_ok-nodes.nodes.items c.in_ok-nodes.ensures.rows)
