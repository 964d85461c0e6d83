use Rattle.std.proofs.Common.{◌∙◌, true, false, sym}
use Rattle.qm_kinds.specs.declared.refusal.Refusal.TheVariants.{NodeDown}
use Rattle.qm_chest.proofs.Kept.{leaves_as}
use Rattle.qm_chest.proofs.Names.{outside_of}
use Rattle.qm_chest.proofs.Whole.{served_as}
use Rattle.qm_chest.proofs.Ways.{down_serves, down_there, due_is, refused_leaves}
use Rattle.qm_chest.proofs.members.Members.served.Goals as goal

pub returns-then-is_down-clause-leaves : goal.returns-then-is_down-clause-leaves
returns-then-is_down-clause-leaves g c =
    leaves_as c.refused.result _ c.refused.ensures (refused_leaves g.D.Disk.meaning c.args.self.now c.args.work c.requires.work c.args.node c.args.now c.args.input NodeDown)

pub returns-then-is_down-clause-serves : goal.returns-then-is_down-clause-serves
returns-then-is_down-clause-serves g c = λ tells cap w asked state early asks.
    served_as c.refused.result _ c.refused.ensures
    (down_serves c.site_files_are_accepted.ensures g.D.Disk.meaning g.met.D.Disk.only_now cap w c.args.self.now c.args.work state c.args.node c.args.now c.requires.there asked c.args.input asks.0
    (outside_of c.args.node c.args.input c.requires.can) (down_there w c.args.self.now c.args.node c.args.input true state.members (sym c.if-is_down.true ∙ c.is_down.ensures)))

pub returns-then-is_due-clause-serves : goal.returns-then-is_due-clause-serves
returns-then-is_due-clause-serves g c = λ tells cap w asked state early asks.
    let up = down_there w c.args.self.now c.args.node c.args.input false state.members (sym c.if-is_down.false ∙ c.is_down.ensures) in
    let due = sym (due_is g.D.Disk.meaning cap w c.args.work state.work c.args.input) ∙ sym c.is_due.ensures ∙ c.if-is_due.true in
    c.taken.ensures.serves tells cap w asked state early (asks.0, up, due, asks.2)

pub returns-clause-serves : goal.returns-clause-serves
returns-clause-serves g c = λ tells cap w asked state early asks.
    let up = down_there w c.args.self.now c.args.node c.args.input false state.members (sym c.if-is_down.false ∙ c.is_down.ensures) in
    let due = sym (due_is g.D.Disk.meaning cap w c.args.work state.work c.args.input) ∙ sym c.is_due.ensures ∙ c.if-is_due.false in
    c.served_alone.ensures.serves tells cap w asked state early (asks.0, asks.1, up, due)
