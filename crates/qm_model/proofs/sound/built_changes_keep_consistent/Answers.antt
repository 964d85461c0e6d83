use Rattle.qm_model.proofs.BuiltLemmas.{built_lawful}
use Rattle.qm_model.proofs.JobLemmas.{change_is_consistent}
use Rattle.qm_model.proofs.sound.built_changes_keep_consistent.Goals as goal

pub returns : goal.returns
returns c s now node request sound built clear = change_is_consistent s now node request sound (built_lawful s node request built.0 built.1) clear
