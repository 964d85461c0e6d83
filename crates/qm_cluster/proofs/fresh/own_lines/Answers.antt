use Rattle.std.proofs.Common.{◌<◌, ◌∙◌, length, sym, ap, arith}
use Rattle.qm_script.specs.ClusterLines.{user_lines_view}
use Rattle.qm_cluster.specs.Fresh.{own_view}
use Rattle.qm_cluster.proofs.Seated.{node_more}
use Rattle.qm_cluster.proofs.fresh.own_lines.Goals as goal

pub names-preserved : goal.names-preserved
names-preserved c =
    let within : c.names.name-index < length c.args.names.now = omega arith in
    ap own_view c.in_ok-push.ensures.items
    ∙ node_more (user_lines_view c.args.lines.now) c.args.names.now c.names.name-index c.name-item.result c.names.own.items c.in_ok-lines_of.field-0 within (sym c.name-item.is) c.names.invariant
    c.in_ok-lines_of.ensures
