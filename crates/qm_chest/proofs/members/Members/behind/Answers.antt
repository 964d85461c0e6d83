use Rattle.std.proofs.Common.{◌∙◌, ap, refl, None, Some}
use Rattle.qm_acting.specs.Standing.{standing_of}
use Rattle.qm_chest.specs.declared.answering.Step.{Step}
use Rattle.qm_chest.specs.declared.work.Work.TheVariants.{Up}
use Rattle.qm_chest.specs.Steps.{came_of}
use Rattle.qm_chest.proofs.Names.{name_there}
use Rattle.qm_chest.proofs.Parted as parted
use Rattle.qm_chest.proofs.members.Members.behind.Goals as goal

pub returns-in-TakeManager-clause-leaves : goal.returns-in-TakeManager-clause-leaves
returns-in-TakeManager-clause-leaves g c =
    let work = c.requires.work in
    let name = name_there c.args.node (standing_of c.args.taken.manager).system.nodes c.args.self.now.names.items work.1 work.2 in
    parted.managing_leaves g.D.Disk.meaning c.args.self.now c.args.taken c.args.node work c.parts-manager.result c.parts-manager.ensures c.managing.result name.0 (c.managing.ensures name.0 name.1)

pub returns-in-TakeManager-clause-follows : goal.returns-in-TakeManager-clause-follows
returns-in-TakeManager-clause-follows g c =
    let work = c.requires.work in
    let name = name_there c.args.node (standing_of c.args.taken.manager).system.nodes c.args.self.now.names.items work.1 work.2 in
    parted.managing_follows c.site_files_are_accepted.ensures c.nodes_keep_their_names.ensures.names g.D.Disk.meaning g.met.D.Disk.only_now c.args.self.now c.args.taken c.args.node c.args.now c.args.input work.2 c.requires.can
    c.parts-manager.result c.parts-manager.ensures c.managing.result c.in-TakeManager.on name.0 c.in-TakeManager.is name.1 (c.managing.ensures name.0 name.1)

pub returns-in-Some-clause-leaves : goal.returns-in-Some-clause-leaves
returns-in-Some-clause-leaves g c =
    parted.refused_leaves g.D.Disk.meaning c.args.self.now c.args.taken c.args.node c.requires.work c.parts-manager.result c.parts-manager.ensures c.behind.result c.up.result c.in-Some.refusal c.acting-acting.result
    (c.up.ensures ∙ ap (λ (step : Step). came_of step (Up c.parts-manager.result.0 c.args.node)) c.refused.ensures) c.behind.ensures

pub returns-in-Some-clause-follows : goal.returns-in-Some-clause-follows
returns-in-Some-clause-follows g c =
    parted.refused_follows c.site_files_are_accepted.ensures c.nodes_keep_their_names.ensures.names g.D.Disk.meaning g.met.D.Disk.only_now c.args.self.now c.args.taken c.args.node c.args.now c.args.input c.requires.work.2 c.requires.can
    c.parts-manager.result c.parts-manager.ensures c.behind.result c.up.result c.in-Some.refusal c.acting-acting.result (Some c.in-Some.refusal) c.in-StartNode.is c.acting-acting.ensures c.in-Some.ensures refl
    (c.up.ensures ∙ ap (λ (step : Step). came_of step (Up c.parts-manager.result.0 c.args.node)) c.refused.ensures) c.behind.ensures

pub returns-in-None-clause-leaves : goal.returns-in-None-clause-leaves
returns-in-None-clause-leaves g c =
    let work = c.requires.work in
    let name = name_there c.args.node (standing_of c.args.taken.manager).system.nodes c.args.self.now.names.items work.1 work.2 in
    let others = c.up_behind.ensures.others in
    parted.started_leaves g.D.Disk.meaning c.args.self.now c.args.taken c.args.node work c.parts-manager.result c.parts-manager.ensures c.behind-in-None.result c.up_behind.new.self c.up_behind.result name.0 others.0 others.2
    (c.up_behind.ensures.came name.0 name.1) c.behind-in-None.ensures

pub returns-in-None-clause-follows : goal.returns-in-None-clause-follows
returns-in-None-clause-follows g c =
    let work = c.requires.work in
    let name = name_there c.args.node (standing_of c.args.taken.manager).system.nodes c.args.self.now.names.items work.1 work.2 in
    let others = c.up_behind.ensures.others in
    parted.started_follows c.site_files_are_accepted.ensures c.nodes_keep_their_names.ensures.names g.D.Disk.meaning g.met.D.Disk.only_now c.args.self.now c.args.taken c.args.node c.args.now c.args.input work.2 c.requires.can
    c.parts-manager.result c.parts-manager.ensures c.behind-in-None.result c.up_behind.new.self c.up_behind.result name.0 None c.in-StartNode.is c.in-None.ensures refl name.1 others.0 c.up_behind.ensures.live others.1 others.2
    (c.up_behind.ensures.came name.0 name.1) c.behind-in-None.ensures

pub returns-in_default : goal.returns-in_default
returns-in_default g c = record {
  leaves = parted.own_leaves g.D.Disk.meaning c.args.self.now c.args.taken c.args.node c.requires.work c.parts-manager.result c.parts-manager.ensures c.behind-in_default.result c.own.result c.own.ensures.leaves c.behind-in_default.ensures;
  follows = parted.own_follows c.site_files_are_accepted.ensures c.nodes_keep_their_names.ensures.names g.D.Disk.meaning g.met.D.Disk.only_now c.args.self.now c.args.taken c.args.node c.args.now c.args.input c.requires.work.2
      c.requires.can c.parts-manager.result c.parts-manager.ensures c.behind-in_default.result c.own.result c.own.ensures.leaves.told c.own.ensures.comes c.behind-in_default.ensures;
}
