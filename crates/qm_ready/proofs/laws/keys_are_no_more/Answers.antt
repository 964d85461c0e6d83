use Rattle.qm_ready.proofs.Jobs.{no_more}
use Rattle.qm_ready.proofs.laws.keys_are_no_more.Goals as goal

pub returns : goal.returns
returns c = λ keys entries once among. no_more keys entries once among
