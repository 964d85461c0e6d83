use Rattle.std.proofs.Common.{◌≡◌, ◌∙◌, false, refl, subst}
use Rattle.qm_history.specs.Common.{Nothing, is_down, Input, system_in}
use Rattle.qm_kinds.specs.declared.input.Input.TheVariants as input
use Rattle.qm_kinds.specs.declared.refusal.Refusal.TheVariants.{ParseFault}
use Rattle.qm_chest.specs.declared.work.Work.TheVariants.{Up}
use Rattle.qm_chest.specs.Whole.{AsksAlone}
use Rattle.qm_chest.proofs.Kept.{alone_leaves, leaves_as}
use Rattle.qm_chest.proofs.Names.{node_within, outside_of}
use Rattle.qm_chest.proofs.Whole.{served_as}
use Rattle.qm_chest.proofs.Ways.{own_serves, refused_leaves, unread_serves}
use Rattle.qm_chest.proofs.members.Members.managed.Goals as goal

pub returns-in-StartNode-clause-serves : goal.returns-in-StartNode-clause-serves
returns-in-StartNode-clause-serves g c = λ tells cap w asked state early asks.
    c.started.ensures.serves tells cap w asked state early (asks.0 ∙ c.in-StartNode.is)

pub returns-in-StopNode-clause-serves : goal.returns-in-StopNode-clause-serves
returns-in-StopNode-clause-serves g c = λ tells cap w asked state early asks.
    c.gone.ensures.serves tells cap w asked state early (subst (λ (i : Input). AsksAlone c.args.node i c.args.leaves w asked) c.in-StopNode.is asks)

pub returns-in-Fault-clause-leaves : goal.returns-in-Fault-clause-leaves
returns-in-Fault-clause-leaves g c =
    leaves_as c.unread.result _ c.unread.ensures
    (refused_leaves g.D.Disk.meaning c.args.self.now (Up c.args.manager c.args.at) c.requires.work c.args.node c.args.now (input.Fault c.in-Fault.place c.in-Fault.kind) (ParseFault c.in-Fault.place c.in-Fault.kind))

pub returns-in-Fault-clause-serves : goal.returns-in-Fault-clause-serves
returns-in-Fault-clause-serves g c = λ tells cap w asked state early asks.
    served_as c.unread.result _ c.unread.ensures
    (unread_serves c.site_files_are_accepted.ensures g.D.Disk.meaning g.met.D.Disk.only_now cap w c.args.self.now (Up c.args.manager c.args.at) state c.args.node c.args.now c.requires.there asked
    c.in-Fault.place c.in-Fault.kind (asks.0 ∙ c.in-Fault.is) (subst (λ (i : Input). is_down w c.args.node i ≡ false) c.in-Fault.is asks.2))

pub returns-in_default : goal.returns-in_default
returns-in_default g c = record {
  leaves = leaves_as c.alone.result _ c.alone.ensures
      (alone_leaves g.D.Disk.meaning c.args.self.now c.args.self.now (Up c.args.manager c.args.at) c.own.result refl refl c.own.ensures.leaves);
  serves = λ tells cap w asked state early asks.
      let there = node_within (system_in w) c.args.self.now.names.items c.args.node state.members.names c.requires.there in
      served_as c.alone.result _ c.alone.ensures
      (own_serves c.site_files_are_accepted.ensures c.nodes_keep_their_names.ensures.names g.D.Disk.meaning g.met.D.Disk.only_now cap w c.args.manager c.args.at c.args.node c.args.now there c.args.self.now state
      c.args.input asked asks.0 (outside_of c.args.node c.args.input c.requires.can) asks.2 asks.3 c.own.result (c.own.ensures.comes tells c.args.now Nothing) c.own.ensures.leaves.told);
}
