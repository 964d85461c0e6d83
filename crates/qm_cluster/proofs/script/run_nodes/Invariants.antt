use Rattle.std.proofs.Common.{◌≡◌, ℕ, [], length}
use Rattle.qm_cluster.specs.Runs.{AllGo, AreReadingFrom, AreThrough, IsCluster, names_of, site_of, so_far}
use Rattle.qm_cluster.proofs.script.run_nodes.Given as goal

-- the nodes so far are through
abbrev pub invariant-nodes : goal.invariant-nodes
invariant-nodes g l = record {
  go : (last : ℕ) → (now : ℕ) × AllGo g.S.Serve.meaning g.Y.Symbiont.meaning (so_far [] last) (so_far [] now)
      (site_of g.C.Clock.told l.fn.manager (g.O.Sink.taken l.fn.sink) l.fn.seats l.fn.stations) (site_of g.C.Clock.told l.manager (g.O.Sink.taken l.sink) l.seats l.stations);
  cluster : IsCluster g.S.Serve.meaning l.manager l.seats (length l.stations);
  through : AreThrough l.place l.seats;
  reading : AreReadingFrom l.place l.seats;
  names : names_of l.seats ≡ names_of l.fn.seats;
  sink : g.O.Sink.faults l.sink ≡ g.O.Sink.faults l.fn.sink;
}
