use Rattle.qm_node.proofs.Learning.{learnable}
use Rattle.qm_node.proofs.laws.duties_can_be_learned.Goals as goal

pub returns : goal.returns
returns c = learnable
