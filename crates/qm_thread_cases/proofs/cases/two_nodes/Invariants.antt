use Rattle.std.proofs.Common.{[], ◌∷◌}
use Rattle.qm_thread_cases.proofs.cases.two_nodes.Given as goal

abbrev pub ghosts-meet : goal.ghosts-meet
ghosts-meet g a = record { began = a.recorder ∷ [] }
