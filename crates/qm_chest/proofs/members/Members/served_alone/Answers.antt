use Rattle.std.proofs.Common.{sym, subst}
use Rattle.qm_chest.specs.declared.work.Work.{Work}
use Rattle.qm_chest.specs.At.{IsWorkOf}
use Rattle.qm_chest.specs.Whole.{AsksAlone, ServesWhere}
use Rattle.qm_chest.proofs.members.Members.served_alone.Goals as goal

pub unmanaged-requires-clause-sound : goal.unmanaged-requires-clause-sound
unmanaged-requires-clause-sound g c = subst (λ (d : Work g.row.D.Denot). IsWorkOf g.D.Disk.meaning c.args.self.now.names.items d) c.in-Down.is c.requires.work

pub returns-in-Up-clause-serves : goal.returns-in-Up-clause-serves
returns-in-Up-clause-serves g c =
    subst (λ (d : Work g.row.D.Denot). ServesWhere g.D.Disk.meaning c.args.self.now d c.args.node c.args.now (AsksAlone c.args.node c.args.input c.args.leaves) c.managed.new.self c.managed.result) (sym c.in-Up.is)
    c.managed.ensures.serves

pub returns-in-Down-clause-serves : goal.returns-in-Down-clause-serves
returns-in-Down-clause-serves g c =
    subst (λ (d : Work g.row.D.Denot). ServesWhere g.D.Disk.meaning c.args.self.now d c.args.node c.args.now (AsksAlone c.args.node c.args.input c.args.leaves) c.unmanaged.new.self c.unmanaged.result) (sym c.in-Down.is)
    c.unmanaged.ensures.serves
