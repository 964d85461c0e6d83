use Rattle.std.proofs.Common.{length}
use Rattle.qm_cluster.proofs.Words.{AreTold}
use Rattle.qm_cluster.proofs.print.print_turns.Given as goal

abbrev pub invariant-pieces : goal.invariant-pieces
invariant-pieces g l =
    AreTold l.fn.names l.fn.turns (g.O.Sink.taken l.fn.sink) (g.O.Sink.faults l.fn.sink) l.rest (g.O.Sink.taken l.sink) (g.O.Sink.faults l.sink)

abbrev pub decreases-pieces : goal.decreases-pieces
decreases-pieces g l = length l.rest
