use Rattle.std.proofs.Common.{◌≡◌, ℕ, length, drop}
use Rattle.qm_script.specs.ClusterLines.{user_lines_view}
use Rattle.qm_cluster.specs.Runs.{AllGo, AreOfNodes, AreReading, IsCluster, names_of, numbers_of, site_of, so_far}
use Rattle.qm_cluster.proofs.script.serve_lines.Given as goal

-- the lines so far were served
abbrev pub invariant-lines : goal.invariant-lines
invariant-lines g l = record {
  last : ℕ;
  go : AllGo g.S.Serve.meaning g.Y.Symbiont.meaning (so_far (numbers_of (user_lines_view l.fn.lines)) 0) (so_far (numbers_of (user_lines_view (drop l.line-index l.fn.lines))) last)
      (site_of g.C.Clock.told l.fn.manager (g.O.Sink.taken l.fn.sink) l.fn.seats l.fn.stations) (site_of g.C.Clock.told l.manager (g.O.Sink.taken l.sink) l.seats l.stations);
  cluster : IsCluster g.S.Serve.meaning l.manager l.seats (length l.stations);
  of_nodes : AreOfNodes l.seats (user_lines_view (drop l.line-index l.fn.lines));
  reading : AreReading (user_lines_view (drop l.line-index l.fn.lines)) l.seats;
  names : names_of l.seats ≡ names_of l.fn.seats;
  sink : g.O.Sink.faults l.sink ≡ g.O.Sink.faults l.fn.sink;
}
