use Rattle.qm_node.proofs.Lives.{who_left}
use Rattle.qm_node.proofs.living_laws.nodes_that_left_are_not_live.Goals as goal

pub returns : goal.returns
returns c = λ w t turn. who_left w t turn
