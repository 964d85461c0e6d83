use Rattle.std.proofs.Common.{[], ◌∷◌}
use Rattle.qm_turn.proofs.turnstile.Turnstile.serve.Given as goal

abbrev pub ghosts-pass_on : goal.ghosts-pass_on
ghosts-pass_on g a = record { made = g.W.Task.note a._run.task.value a._run.found.value a.value a._run.answer.value ∷ [] }
