use Rattle.qm_model.proofs.BuiltLemmas.{built_lawful}
use Rattle.qm_model.proofs.JobLemmas.{stays_consistent}
use Rattle.qm_model.proofs.sound.built_requests_keep_consistent.Goals as goal

pub returns : goal.returns
returns c s now node request a sound built is = stays_consistent s now node request a sound (built_lawful s node request built.0 built.1) is
