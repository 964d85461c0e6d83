use Rattle.qm_serving.specs.ClusterServing.{ServesAtOnce}
use Rattle.qm_serving.specs.Serving.{Serves}
use Rattle.qm_program.proofs.Surviving.{nodes_noted, one_noted, served_behind}
use Rattle.qm_program.proofs.laws.programs_go_on_behind_runs.Goals as goal

pub returns-clause-run : goal.returns-clause-run
returns-clause-run g c = λ left turns old new end w runs tells begins some files are.
    c.programs_go_on_with_what_was_acknowledged.ensures.behind w turns files
    (served_behind g.D.Disk.meaning (Serves g.D.Disk.meaning g.Y.Symbiont.meaning) left turns old new w tells begins
    (one_noted g.D.Disk.meaning g.Y.Symbiont.meaning turns old new w tells begins) end runs some files are)

pub returns-clause-cluster : goal.returns-clause-cluster
returns-clause-cluster g c = λ left turns old new end w runs tells begins some files are.
    c.programs_go_on_with_what_was_acknowledged.ensures.behind w turns files
    (served_behind g.D.Disk.meaning (ServesAtOnce g.D.Disk.meaning g.Y.Symbiont.meaning) left turns old new w tells begins
    (nodes_noted g.D.Disk.meaning g.Y.Symbiont.meaning turns old new w tells begins) end runs some files are)
