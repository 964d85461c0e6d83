use Rattle.std.proofs.Common.{[], ◌∷◌}
use Rattle.qm_thread_cases.proofs.cases.one_node.Given as goal

abbrev pub ghosts-drive_behind : goal.ghosts-drive_behind
ghosts-drive_behind g a = record { began = a.recorder ∷ [] }
