use Rattle.std.proofs.Common.{◌≡◌, ◌-◌, length}
use Rattle.qm_history.specs.Chest.{turns_kept}
use Rattle.qm_cluster.specs.Nodes.{CanGoOn}
use Rattle.qm_cluster.specs.Parts.{IsWhyIn}
use Rattle.qm_node.specs.Seats.{standing_of}
use Rattle.qm_node.specs.Outside.{outside_at}
use Rattle.qm_cluster.specs.Turning.{Goes}
use Rattle.qm_cluster.proofs.Parts.{Follows}
use Rattle.qm_cluster.proofs.node.serve_part.Given as goal

-- the turns so far behind the first one were made, and the node can go on
abbrev pub invariant-turns : goal.invariant-turns
invariant-turns g l = record {
  goes : Goes g.S.Serve.meaning g.Y.Symbiont.meaning (IsWhyIn l.fn.part) l.fn.node (standing_of l.initial.seat) (standing_of l.seat)
      (outside_at g.C.Clock.told l.initial.manager (g.O.Sink.taken l.initial.sink) l.initial.station)
      (outside_at g.C.Clock.told l.manager (g.O.Sink.taken l.sink) l.station);
  can : CanGoOn g.S.Serve.meaning l.fn.node l.manager l.seat;
  follows : Follows l.fn.part l.initial.seat l.seat;
  sink : g.O.Sink.faults l.sink ≡ g.O.Sink.faults l.initial.sink;
}

abbrev pub decreases-turns : goal.decreases-turns
decreases-turns g l = turns_kept - length (g.S.Serve.meaning.turns l.manager)
