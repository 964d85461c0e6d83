use Rattle.qm_node.proofs.Lives.{others_whole, others_cut}
use Rattle.qm_node.proofs.living_laws.other_nodes_stay.Goals as goal

pub returns-clause-whole : goal.returns-clause-whole
returns-clause-whole c = λ w asked t node sound other turn. others_whole w asked t node sound other turn

pub returns-clause-cut : goal.returns-clause-cut
returns-clause-cut c = λ w asked t node other turn. others_cut w asked t node other turn
