use Rattle.qm_image.specs.Image.{system_of}
use Rattle.qm_world.proofs.Rows.{Begun}
use Rattle.qm_world.proofs.beginning.replay_from.Given as goal

abbrev pub invariant-loop-what : goal.invariant-loop-what
invariant-loop-what l = Begun l.log l.what-items l.rows l.what-index (system_of l.image)
