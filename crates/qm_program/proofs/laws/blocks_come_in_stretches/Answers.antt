use Rattle.qm_serving.specs.ClusterServing.{ServesAtOnce}
use Rattle.qm_node.specs.Asking.{read_built}
use Rattle.qm_serving.specs.Serving.{Serves}
use Rattle.qm_program.proofs.Surviving.{nodes_taken, one_taken, served_taken}
use Rattle.qm_program.proofs.laws.blocks_come_in_stretches.Goals as goal

pub returns-clause-run : goal.returns-clause-run
returns-clause-run g c = λ left turns old new end w runs tells begins node name was now called before after.
    served_taken g.D.Disk.meaning (Serves g.D.Disk.meaning g.Y.Symbiont.meaning) left turns old new g.Y.Symbiont.meaning w tells begins
    (λ extent node lines faults h. c.steps_come_in_stretches.ensures.stretches read_built extent w turns node lines faults h)
    (λ extent node lines faults h. c.steps_come_in_stretches.ensures.given read_built extent w turns node lines faults h)
    node name was now called before after
    (one_taken g.D.Disk.meaning g.Y.Symbiont.meaning turns old new w tells begins node name was now before after) end runs

pub returns-clause-cluster : goal.returns-clause-cluster
returns-clause-cluster g c = λ left turns old new end w runs tells begins node name was now called before after.
    served_taken g.D.Disk.meaning (ServesAtOnce g.D.Disk.meaning g.Y.Symbiont.meaning) left turns old new g.Y.Symbiont.meaning w tells begins
    (λ extent node lines faults h. c.steps_come_in_stretches.ensures.stretches read_built extent w turns node lines faults h)
    (λ extent node lines faults h. c.steps_come_in_stretches.ensures.given read_built extent w turns node lines faults h)
    node name was now called before after
    (nodes_taken g.D.Disk.meaning g.Y.Symbiont.meaning turns old new w tells begins node name was now before after) end runs
