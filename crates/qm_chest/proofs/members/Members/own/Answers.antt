use Rattle.qm_chest.specs.Steps.{LeavesOwn, OwnStep}
use Rattle.qm_chest.proofs.InPlace.{step_holds}
use Rattle.qm_chest.proofs.members.Members.own.Goals as goal

pub returns-clause-leaves : goal.returns-clause-leaves
returns-clause-leaves g c =
    let step = c.own_step-step in
    step_holds step.new.manager c.args.at (LeavesOwn g.D.Disk.meaning c.args.self.now c.args.took c.args.manager) step.result c.of.result c.of.ensures.came c.of.ensures.work step.ensures.leaves

pub returns-clause-comes : goal.returns-clause-comes
returns-clause-comes g c =
    let step = c.own_step-step in
    step_holds step.new.manager c.args.at (OwnStep g.D.Disk.meaning c.args.self.now c.args.manager c.args.at c.args.node c.args.now c.args.input c.args.took) step.result c.of.result c.of.ensures.came c.of.ensures.work
    step.ensures.comes
