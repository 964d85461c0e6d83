use Rattle.qm_serving.specs.ClusterServing.{ServesAtOnce}
use Rattle.qm_serving.specs.Serving.{Serves}
use Rattle.qm_program.proofs.Surviving.{nodes_noted, one_noted, served_moments}
use Rattle.qm_program.proofs.laws.a_crash_leaves_a_moment_of_the_run.Goals as goal

pub returns-clause-run : goal.returns-clause-run
returns-clause-run g c = λ left turns old new end w runs tells begins.
    served_moments g.D.Disk.meaning (Serves g.D.Disk.meaning g.Y.Symbiont.meaning) left turns old new w tells begins
    (one_noted g.D.Disk.meaning g.Y.Symbiont.meaning turns old new w tells begins) g.met.D.Disk.only_now end runs

pub returns-clause-cluster : goal.returns-clause-cluster
returns-clause-cluster g c = λ left turns old new end w runs tells begins.
    served_moments g.D.Disk.meaning (ServesAtOnce g.D.Disk.meaning g.Y.Symbiont.meaning) left turns old new w tells begins
    (nodes_noted g.D.Disk.meaning g.Y.Symbiont.meaning turns old new w tells begins) g.met.D.Disk.only_now end runs
