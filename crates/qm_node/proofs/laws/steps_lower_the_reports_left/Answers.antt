use Rattle.qm_node.proofs.Measure.{steps_lower}
use Rattle.qm_node.proofs.laws.steps_lower_the_reports_left.Goals as goal

pub returns : goal.returns
returns c = steps_lower
