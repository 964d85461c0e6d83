use Rattle.std.proofs.Common.{sym, subst}
use Rattle.qm_kinds.specs.declared.input.Input.TheVariants as input
use Rattle.qm_acting.specs.Standing.{disk_of, standing_of}
use Rattle.qm_chest.specs.declared.answering.Step.{Step}
use Rattle.qm_chest.specs.declared.work.Work.TheVariants.{Up}
use Rattle.qm_chest.specs.Steps.{OwnComesTo, came_of}
use Rattle.qm_chest.proofs.Names.{name_there}
use Rattle.qm_chest.proofs.OwnStep.{shown_comes, view_refused_comes}
use Rattle.qm_chest.proofs.members.Members.show.Goals as goal

pub returns-in-Ok-clause-comes : goal.returns-in-Ok-clause-comes
returns-in-Ok-clause-comes g c = λ tells acted beside cap w small kept up.
    let there = name_there c.args.at (standing_of c.args.manager.now).system.nodes c.args.self.now.names.items c.requires.names c.requires.there in
    subst (λ (step : Step). OwnComesTo g.D.Disk.meaning cap w c.args.node c.args.now acted (input.Show c.args.query) beside c.args.took (disk_of c.args.manager.now) (came_of step (Up c.args.manager.now c.args.at)) step.event) (sym c.shown.ensures)
    (shown_comes c.site_files_are_accepted.ensures g.D.Disk.meaning g.met.D.Disk.only_now cap w c.args.manager.now c.args.at up c.args.node c.args.now acted beside c.args.took c.acting-moment.result c.acting-moment.ensures
    c.args.query there.0 c.in-Ok.rows there.2 (c.in-Ok.ensures.rows there.0 there.1))

pub returns-in-Err-By-clause-comes : goal.returns-in-Err-By-clause-comes
returns-in-Err-By-clause-comes g c = λ tells acted beside cap w small kept up.
    let there = name_there c.args.at (standing_of c.args.manager.now).system.nodes c.args.self.now.names.items c.requires.names c.requires.there in
    let e = rw c.in-Err-By.field-0-is at c.in-Err-By.ensures in
    subst (λ (step : Step). OwnComesTo g.D.Disk.meaning cap w c.args.node c.args.now acted (input.Show c.args.query) beside c.args.took (disk_of c.args.manager.now) (came_of step (Up c.args.manager.now c.args.at)) step.event) (sym c.refused.ensures)
    (view_refused_comes c.site_files_are_accepted.ensures g.D.Disk.meaning g.met.D.Disk.only_now cap w c.args.manager.now c.args.at up c.args.node c.args.now acted beside c.args.took c.acting-moment.result c.acting-moment.ensures
    c.args.query there.0 c.in-Err-By.refusal there.2 (e.refused there.0 there.1))
