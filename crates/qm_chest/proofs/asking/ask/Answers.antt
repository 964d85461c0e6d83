use Rattle.qm_chest.specs.Steps.{AskStep, LeavesAsked}
use Rattle.qm_chest.proofs.InPlace.{step_holds}
use Rattle.qm_chest.proofs.asking.ask.Goals as goal

pub returns-clause-leaves : goal.returns-clause-leaves
returns-clause-leaves g c =
    let step = c.ask_step-step in
    step_holds step.new.manager c.args.at (LeavesAsked g.D.Disk.meaning c.args.took c.args.manager c.args.at) step.result c.of.result c.of.ensures.came c.of.ensures.work step.ensures.leaves

pub returns-clause-comes : goal.returns-clause-comes
returns-clause-comes g c =
    let step = c.ask_step-step in
    step_holds step.new.manager c.args.at (AskStep g.D.Disk.meaning c.args.manager c.args.at c.args.live c.args.node c.args.now c.args.request c.args.took) step.result c.of.result c.of.ensures.came c.of.ensures.work
    step.ensures.comes
