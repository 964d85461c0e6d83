use Rattle.qm_image.specs.Image.{system_of}
use Rattle.qm_image.proofs.image.Image.ready.Goals as goal

pub returns-clause-jobs : goal.returns-clause-jobs
unfolding system_of
returns-clause-jobs c = c.ready.ensures.jobs (system_of c.args.self.now)
