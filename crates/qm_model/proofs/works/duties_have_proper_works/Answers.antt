use Rattle.qm_model.proofs.DutyLemmas.{proper_duties}
use Rattle.qm_model.proofs.works.duties_have_proper_works.Goals as goal

pub returns : goal.returns
returns c = proper_duties
