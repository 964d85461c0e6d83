use Rattle.qm_node.proofs.Lives.{answer_tells}
use Rattle.qm_node.proofs.living_laws.answers_tell_who_is_live.Goals as goal

pub returns : goal.returns
returns c = λ w asked t sound turn. answer_tells w asked t sound turn
