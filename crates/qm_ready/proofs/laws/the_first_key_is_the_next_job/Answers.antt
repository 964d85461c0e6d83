use Rattle.qm_ready.proofs.Jobs.{first_is_next}
use Rattle.qm_ready.proofs.laws.the_first_key_is_the_next_job.Goals as goal

pub returns : goal.returns
returns c = λ s q keys order row. first_is_next s q keys order row
