use Rattle.std.proofs.Common.{map}
use Rattle.qm_serving.specs.ClusterServing.{ServesAtOnce}
use Rattle.qm_node.specs.Sides.{side_of}
use Rattle.qm_script.specs.ClusterLines.{user_lines_view}
use Rattle.qm_cluster.specs.Ends.{serving_end}
use Rattle.qm_program.proofs.Leaving.{served_ends}
use Rattle.qm_program.proofs.Reasons.{nodes_reason}
use Rattle.qm_program.proofs.running.serve_text_at_once.Goals as goal

pub returns-in-Ok-clause-ends : goal.returns-in-Ok-clause-ends
returns-in-Ok-clause-ends g c =
    let end = serving_end c.serve_by_each.result.end in
    let serves = c.serve_by_each.ensures.serves c.args.disk c.in-Ok.ensures.opened in
    rw (c.outcome_of.ensures.end, c.outcome_of.ensures.disk, c.outcome_of.ensures.turns)
    (served_ends g.D.Disk.meaning (ServesAtOnce g.D.Disk.meaning g.Y.Symbiont.meaning) c.args.script.now (g.O.Sink.faults c.args.sink.now) c.args.disk c.in-Ok.field-0.chest c.in-Ok.ensures.opened
    (g.O.Sink.faults c.serve_by_each.new.sink) (user_lines_view c.deref.result.now) (rw c.deref.ensures.value c.in-Ok.ensures.lines)
    (g.O.Sink.taken c.args.sink.now) (g.O.Sink.taken c.serve_by_each.new.sink) (map (side_of g.C.Clock.told) c.args.stations.now) (map (side_of g.C.Clock.told) c.serve_by_each.new.stations)
    c.serve_by_each.result.disk c.serve_by_each.result.turns.items end c.serve_by_each.ensures.sink
    (nodes_reason g.D.Disk.meaning g.Y.Symbiont.meaning c.args.disk _ _ _ _ _ end serves) serves.spare serves)
