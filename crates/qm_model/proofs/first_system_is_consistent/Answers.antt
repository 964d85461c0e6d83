use Rattle.qm_model.proofs.First.{first_is_consistent}
use Rattle.qm_model.proofs.first_system_is_consistent.Goals as goal

pub returns : goal.returns
returns c = first_is_consistent
