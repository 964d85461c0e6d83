use Rattle.std.proofs.Common.{◌≡◌}
use Rattle.qm_history.specs.Chest.{turns_kept}
use Rattle.qm_script.specs.ClusterLines.{user_lines_view}
use Rattle.qm_cluster.specs.Sharing.{MayBegin}
use Rattle.qm_cluster.proofs.Underway.{IsUnderWay}
use Rattle.qm_cluster.proofs.node_course.drive.Given as goal

-- the node is on its way by the same pass, and each call so far was one turn of it
abbrev pub invariant-loop-call : goal.invariant-loop-call
invariant-loop-call g l =
    IsUnderWay g.Y.Symbiont.meaning g.S.Serve.meaning.tells (MayBegin g.S.Serve.meaning g.J.Begins.began) turns_kept l.fn.node l.fn.name (user_lines_view l.fn.lines) l.fn.station.symbiont l.fn.text.taken l.fn.pass (g.C.Clock.told l.fn.station.clock)
    l.seat l.station.symbiont l.waiting.pass.now (g.C.Clock.told l.station.clock) l.text.taken
    × (l.seat.count ≡ l._call) × (l.waiting.pass.ghost_name ≡ l.initial.waiting.pass.ghost_name) × (l.waiting.turnstile ≡ l.initial.waiting.turnstile)
