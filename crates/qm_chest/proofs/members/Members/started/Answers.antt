use Rattle.std.proofs.Common.{◌∙◌, ap, sym, subst, None}
use Rattle.qm_acting.specs.Standing.{disk_of}
use Rattle.qm_history.specs.World.{system_in}
use Rattle.qm_chest.specs.declared.answering.Step.{Step}
use Rattle.qm_chest.specs.declared.asking.Came.{Came}
use Rattle.qm_chest.specs.declared.work.Work.TheVariants.{Up}
use Rattle.qm_chest.specs.Steps.{came_of}
use Rattle.qm_chest.specs.Whole.{IsServedAs, both}
use Rattle.qm_chest.proofs.Names.{node_within}
use Rattle.qm_chest.proofs.Whole.{served_as}
use Rattle.qm_chest.proofs.ComingUp.{start_refused}
use Rattle.qm_chest.proofs.members.Members.started.Goals as goal

pub returns-in-Some-clause-serves : goal.returns-in-Some-clause-serves
returns-in-Some-clause-serves g c = λ tells cap w asked state early is.
    let there = node_within (system_in w) c.args.self.now.names.items c.args.node state.members.names c.requires.there in
    served_as c.alone.result _ c.alone.ensures
    (subst (λ (came : Came g.row.D.Denot). IsServedAs g.D.Disk.meaning cap w c.args.node c.args.now asked (disk_of c.args.manager) (record { members = c.args.self.now; work = came.work }) (both came.event None) came.answer) (sym (c.up.ensures ∙ ap (λ (step : Step). came_of step (Up c.args.manager c.args.at)) c.refused.ensures))
    (start_refused c.site_files_are_accepted.ensures c.nodes_keep_their_names.ensures.names g.D.Disk.meaning g.met.D.Disk.only_now cap w c.args.manager c.args.at c.args.node c.args.now there c.args.self.now state asked is
    c.in-Some.refusal c.acting-moment.result c.acting-moment.ensures (sym c.in-Some.is ∙ c.start_refusal.ensures)))
