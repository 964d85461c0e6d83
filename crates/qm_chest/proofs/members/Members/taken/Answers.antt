use Rattle.std.proofs.Common.{sym, ap, subst}
use Rattle.qm_acting.specs.Files.{files_disk}
use Rattle.qm_acting.specs.Standing.{disk_of}
use Rattle.qm_chest.specs.declared.work.Work.{Work}
use Rattle.qm_chest.specs.At.{IsWorkOf, IsStateAt}
use Rattle.qm_chest.specs.Work.{work_disk}
use Rattle.qm_chest.specs.Whole.{AsksToTake, IsServedAs, ServesWhere, StandsEarly, both}
use Rattle.qm_chest.proofs.Begun.{held_down, leaves_of, needs_of, taking_down}
use Rattle.qm_chest.proofs.members.Members.taken.Goals as goal

pub taken_from-requires-clause-work : goal.taken_from-requires-clause-work
taken_from-requires-clause-work g c = subst (λ (d : Work _). IsWorkOf g.D.Disk.meaning c.args.self.now.names.items d) c.in-Up.is c.requires.work

pub taken_from-requires-clause-needs : goal.taken_from-requires-clause-needs
taken_from-requires-clause-needs g c = needs_of c.args.work c.args.input c.requires.due

pub taken_from-requires-clause-stands : goal.taken_from-requires-clause-stands
taken_from-requires-clause-stands g c = λ tells. subst (λ (d : Work _). StandsEarly g.D.Disk.meaning (record { members = c.args.self.now; work = d })) c.in-Up.is (c.requires.stands tells)

pub taken_up-requires-clause-sound : goal.taken_up-requires-clause-sound
taken_up-requires-clause-sound g c = subst (λ (d : Work _). IsWorkOf g.D.Disk.meaning c.args.self.now.names.items d) c.in-Down.is c.requires.work

pub taken_up-requires-clause-needs : goal.taken_up-requires-clause-needs
taken_up-requires-clause-needs g c = needs_of c.args.work c.args.input c.requires.due

pub taken_up-requires-clause-early : goal.taken_up-requires-clause-early
taken_up-requires-clause-early g c = λ tells.
    held_down g.D.Disk.meaning c.args.self.now c.in-Down.files c.in-Down.place
    (subst (λ (d : Work _). StandsEarly g.D.Disk.meaning (record { members = c.args.self.now; work = d })) c.in-Down.is (c.requires.stands tells))

pub returns-in-Up-clause-leaves : goal.returns-in-Up-clause-leaves
returns-in-Up-clause-leaves g c =
    leaves_of g.D.Disk.meaning c.args.self.now c.args.work (disk_of c.in-Up.manager) c.taken_from.new.self c.taken_from.result (ap work_disk (sym c.in-Up.is)) c.taken_from.ensures.leaves

pub returns-in-Up-clause-serves : goal.returns-in-Up-clause-serves
returns-in-Up-clause-serves g c =
    subst (λ (d : Work _). ServesWhere g.D.Disk.meaning c.args.self.now d c.args.node c.args.now (AsksToTake c.args.node c.args.input) c.taken_from.new.self c.taken_from.result) (sym c.in-Up.is) c.taken_from.ensures.serves

pub returns-in-Down-clause-leaves : goal.returns-in-Down-clause-leaves
returns-in-Down-clause-leaves g c =
    leaves_of g.D.Disk.meaning c.args.self.now c.args.work (files_disk c.in-Down.files) c.taken_up.new.self c.taken_up.result (ap work_disk (sym c.in-Down.is)) c.taken_up.ensures.leaves

pub returns-in-Down-clause-serves : goal.returns-in-Down-clause-serves
returns-in-Down-clause-serves g c = λ tells cap w asked state early asks.
    let here = subst (λ (d : Work _). IsStateAt g.D.Disk.meaning cap w (record { members = c.args.self.now; work = d })) c.in-Down.is state in
    subst (λ (d : Work _). IsServedAs g.D.Disk.meaning cap w c.args.node c.args.now asked (work_disk d) (record { members = c.taken_up.new.self; work = c.taken_up.result.work }) (both c.taken_up.result.first c.taken_up.result.second) c.taken_up.result.answer)
    (sym c.in-Down.is)
    (c.taken_up.ensures.serves tells cap w asked (taking_down g.D.Disk.meaning cap w asked c.args.self.now c.in-Down.files c.in-Down.place c.args.node c.args.input here early asks) here.work.holds)
