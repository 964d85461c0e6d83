use Rattle.std.proofs.Common.{[], ◌∷◌}
use Rattle.qm_thread_cases.proofs.clusters.make_all.Given as goal

abbrev pub ghosts-make_from : goal.ghosts-make_from
ghosts-make_from g a = record { began = a.recorder ∷ [] }
