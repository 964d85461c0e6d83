use Rattle.std.proofs.Common.{map}
use Rattle.qm_node.specs.Sides.{side_of}
use Rattle.qm_program.proofs.Leaving.{unopened_ends}
use Rattle.qm_program.proofs.running.open_lines.Goals as goal

pub returns-in-Err-clause-ends : goal.returns-in-Err-clause-ends
returns-in-Err-clause-ends g c =
    rw (c.of.ensures.end, c.of.ensures.disk, c.of.ensures.turns)
    (unopened_ends g.D.Disk.meaning g.W.Way.served c.args.script.now (g.O.Sink.faults c.args.sink.now) c.args.disk c.in-Err.disk
    (g.O.Sink.taken c.args.sink.now) (map (side_of g.C.Clock.told) c.args.stations.now) c.in-Err.ensures.looks
    c.in-Err.fault c.in-Err.ensures.fault c.in-Err.ensures.faults c.unopened_end-end.result c.unopened_end-end.ensures)
