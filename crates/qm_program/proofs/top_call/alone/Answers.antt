use Rattle.std.proofs.Common.{◌∙◌, Some, ap, map, sym, string_bytes}
use Rattle.qm_node.specs.Sides.{side_of}
use Rattle.qm_serving.specs.Serving.{outside}
use Rattle.qm_program.specs.Causes.{counts}
use Rattle.qm_program.specs.Task.{task_of}
use Rattle.qm_program.proofs.Asking.{listed, unstarted}
use Rattle.qm_program.proofs.top_call.alone.Goals as goal

pub returns-in-Err-clause-does : goal.returns-in-Err-clause-does
returns-in-Err-clause-does g c =
    rw (c.of-in-Err.ensures.end, c.of-in-Err.ensures.disk, c.of-in-Err.ensures.turns)
    (unstarted g.D.Disk.meaning g.Y.Symbiont.meaning g.met.D.Disk.only_now g.S.Source.remaining (task_of (map string_bytes c.args.words.now)) c.args.source.now
    (outside c.args.disk (g.O.Sink.taken c.args.sink.now) (map (side_of g.C.Clock.told) c.args.stations.now))
    (counts (g.S.Source.faults c.args.source.now) (g.O.Sink.faults c.args.sink.now) (g.D.Disk.meaning.faults c.args.disk)))

pub returns-in-Ok-Some-Show-clause-does : goal.returns-in-Ok-Some-Show-clause-does
returns-in-Ok-Some-Show-clause-does g c =
    rw c.show.ensures.turns
    (listed g.D.Disk.meaning g.Y.Symbiont.meaning g.S.Source.remaining c.args.source.now c.args.disk c.show.result.disk
    (g.O.Sink.taken c.args.sink.now) (g.O.Sink.taken c.show.new.sink) (map (side_of g.C.Clock.told) c.args.stations.now)
    (counts (g.S.Source.faults c.args.source.now) (g.O.Sink.faults c.args.sink.now) (g.D.Disk.meaning.faults c.args.disk))
    (counts (g.S.Source.faults c.args.source.now) (g.O.Sink.faults c.show.new.sink) (g.D.Disk.meaning.faults c.show.result.disk))
    c.show.result.end c.show.ensures.shows (c.show.ensures.cause (g.S.Source.remaining c.args.source.now) (g.S.Source.faults c.args.source.now)) c.show.ensures.complete
    (task_of (map string_bytes c.args.words.now)) (sym (c.in-Ok-Some-Show.field-0-is ∙ ap Some c.in-Ok-Some-Show.field-0-0-is) ∙ c.in-Ok-Some-Show.ensures.task))
