use Rattle.qm_model.proofs.JobLemmas.{stays_consistent}
use Rattle.qm_model.proofs.sound.requests_keep_consistent.Goals as goal

pub returns : goal.returns
returns c = stays_consistent
