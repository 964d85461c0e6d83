use Rattle.std.proofs.Common.{◌≡◌, ◌∙◌, false, refl, subst}
use Rattle.qm_history.specs.Common.{is_down, Input}
use Rattle.qm_kinds.specs.declared.input.Input.TheVariants as input
use Rattle.qm_kinds.specs.declared.refusal.Refusal.TheVariants.{ParseFault}
use Rattle.qm_chest.specs.declared.work.Work.TheVariants.{Down}
use Rattle.qm_chest.specs.Whole.{AsksAlone}
use Rattle.qm_chest.proofs.Kept.{leaves_as}
use Rattle.qm_chest.proofs.Names.{name_at}
use Rattle.qm_chest.proofs.Whole.{served_as}
use Rattle.qm_chest.proofs.Ways.{alone_goes, gone_down, refused_leaves, unread_serves}
use Rattle.qm_chest.proofs.members.Members.unmanaged.Goals as goal

pub returns-in-Fault-clause-leaves : goal.returns-in-Fault-clause-leaves
returns-in-Fault-clause-leaves g c =
    leaves_as c.unread.result _ c.unread.ensures
    (refused_leaves g.D.Disk.meaning c.args.self.now (Down c.args.files c.args.place) c.requires.sound c.args.node c.args.now (input.Fault c.in-Fault.byte c.in-Fault.kind) (ParseFault c.in-Fault.byte c.in-Fault.kind))

pub returns-in-Fault-clause-serves : goal.returns-in-Fault-clause-serves
returns-in-Fault-clause-serves g c = λ tells cap w asked state early asks.
    served_as c.unread.result _ c.unread.ensures
    (unread_serves c.site_files_are_accepted.ensures g.D.Disk.meaning g.met.D.Disk.only_now cap w c.args.self.now (Down c.args.files c.args.place) state c.args.node c.args.now c.requires.there asked
    c.in-Fault.byte c.in-Fault.kind (asks.0 ∙ c.in-Fault.is) (subst (λ (i : Input). is_down w c.args.node i ≡ false) c.in-Fault.is asks.2))

pub returns-in-StopNode-clause-leaves : goal.returns-in-StopNode-clause-leaves
returns-in-StopNode-clause-leaves g c =
    let named = name_at c.args.node c.args.self.now.names.items c.requires.there in
    leaves_as c.gone_alone.result _ (c.gone_alone.ensures.served named.0 named.1)
    (alone_goes g.D.Disk.meaning c.args.self.now c.gone_alone.new.self (Down c.args.files c.args.place) c.gone_alone.ensures.others.0 c.gone_alone.ensures.others.2 c.args.files c.args.place c.args.node c.args.now c.args.leaves named.0 c.requires.sound refl)

pub returns-in-StopNode-clause-serves : goal.returns-in-StopNode-clause-serves
returns-in-StopNode-clause-serves g c = λ tells cap w asked state early asks.
    let named = name_at c.args.node c.args.self.now.names.items c.requires.there in
    served_as c.gone_alone.result _ (c.gone_alone.ensures.served named.0 named.1)
    (gone_down c.site_files_are_accepted.ensures g.D.Disk.meaning g.met.D.Disk.only_now cap w c.args.self.now c.gone_alone.new.self (Down c.args.files c.args.place) state c.args.node c.args.now c.requires.there
    c.gone_alone.ensures.others.0 c.gone_alone.ensures.live c.gone_alone.ensures.others.1 c.gone_alone.ensures.others.2 c.args.leaves asked (subst (λ (i : Input). AsksAlone c.args.node i c.args.leaves w asked) c.in-StopNode.is asks)
    c.args.files refl named.0 named.1 c.args.place state.work)
