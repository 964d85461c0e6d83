use Rattle.qm_cluster.proofs.Named.{are_of_nodes}
use Rattle.qm_cluster.proofs.laws.lines_are_of_their_cluster.Goals as goal

pub returns : goal.returns
returns c = are_of_nodes
