use Rattle.std.proofs.Common.{[], ◌∷◌}
use Rattle.qm_serving.proofs.cluster_serving.serve_own.Given as goal

abbrev pub ghosts-run_nodes : goal.ghosts-run_nodes
ghosts-run_nodes g a = record { began = a.chest ∷ [] }
