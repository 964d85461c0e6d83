use Rattle.std.proofs.Common.{ℕ, List, Some, Err, Global, Vec, map, subst}
use Rattle.qm_node.specs.Sides.{side_of}
use Rattle.qm_history.specs.Lines.{script_lines}
use Rattle.qm_script.specs.ClusterLines.{ReadsLines, user_lines_view}
use Rattle.qm_script.specs.declared.lines.UserLine.{UserLine}
use Rattle.qm_program.proofs.Leaving.{unread_ends}
use Rattle.qm_program.proofs.running.lines_for.Goals as goal

pub returns-in-Err-clause-ends : goal.returns-in-Err-clause-ends
returns-in-Err-clause-ends g c = λ disk opened.
    rw (c.of.ensures.end, c.from.ensures, c.of.ensures.disk, c.of.ensures.turns, c.give_back.ensures)
    (unread_ends g.D.Disk.meaning g.W.Way.served c.args.script.now (g.O.Sink.faults c.args.sink.now) disk c.args.chest opened (λ (lines : Vec UserLine Global). user_lines_view lines.items)
    (g.O.Sink.taken c.args.sink.now) (map (side_of g.C.Clock.told) c.args.stations.now) c.in-Err.end
    (subst (λ (names : List (List ℕ)). ReadsLines (λ (lines : Vec UserLine Global). user_lines_view lines.items) (script_lines (Some names) c.args.script.now) (Err c.in-Err.end)) c.names-names.ensures c.in-Err.ensures))
