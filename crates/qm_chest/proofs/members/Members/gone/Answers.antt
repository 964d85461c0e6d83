use Rattle.std.proofs.Common.{refl, None}
use Rattle.qm_acting.specs.declared.files.Files.TheVariants as site_files
use Rattle.qm_chest.specs.declared.work.Work.TheVariants.{Up}
use Rattle.qm_chest.proofs.Kept.{leaves_as}
use Rattle.qm_chest.proofs.Names.{name_at}
use Rattle.qm_chest.proofs.Whole.{served_as}
use Rattle.qm_chest.proofs.Ways.{alone_goes, gone_up}
use Rattle.qm_chest.proofs.members.Members.gone.Goals as goal

pub returns-then-at-node-clause-leaves : goal.returns-then-at-node-clause-leaves
returns-then-at-node-clause-leaves g c =
    let named = name_at c.args.node c.args.self.now.names.items c.requires.there in
    leaves_as c.gone_alone.result _ (c.gone_alone.ensures.served named.0 named.1)
    (alone_goes g.D.Disk.meaning c.args.self.now c.gone_alone.new.self (Up c.args.manager c.args.at) c.gone_alone.ensures.others.0 c.gone_alone.ensures.others.2 (site_files.Closed c.close.result) None c.args.node c.args.now c.args.leaves named.0 tt c.close.ensures)

pub returns-then-at-node-clause-serves : goal.returns-then-at-node-clause-serves
returns-then-at-node-clause-serves g c = λ tells cap w asked state early asks.
    let named = name_at c.args.node c.args.self.now.names.items c.requires.there in
    served_as c.gone_alone.result _ (c.gone_alone.ensures.served named.0 named.1)
    (gone_up c.site_files_are_accepted.ensures g.D.Disk.meaning g.met.D.Disk.only_now cap w c.args.self.now c.gone_alone.new.self (Up c.args.manager c.args.at) state c.args.node c.args.now c.requires.there
    c.gone_alone.ensures.others.0 c.gone_alone.ensures.live c.gone_alone.ensures.others.1 c.gone_alone.ensures.others.2 c.args.leaves asked asks (site_files.Closed c.close.result) c.close.ensures named.0 named.1
    c.args.manager c.args.at state.work refl c.if-at-node.true)
