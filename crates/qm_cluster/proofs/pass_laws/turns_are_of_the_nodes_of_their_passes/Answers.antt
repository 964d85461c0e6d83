use Rattle.qm_cluster.proofs.Owning.{of_their_nodes, own_turns, own_begins}
use Rattle.qm_cluster.proofs.pass_laws.turns_are_of_the_nodes_of_their_passes.Goals as goal

pub returns-clause-each : goal.returns-clause-each
returns-clause-each c = of_their_nodes

pub returns-clause-own : goal.returns-clause-own
returns-clause-own c = own_turns

pub returns-clause-begins : goal.returns-clause-begins
returns-clause-begins c = own_begins
