use Rattle.qm_symb.proofs.StandardLemmas.{step_stands}
use Rattle.qm_symb.proofs.standard.StandardSymbiont.step.Goals as goal

pub returns-in-Pages-clause-next_place : goal.returns-in-Pages-clause-next_place
returns-in-Pages-clause-next_place g c =
    let at = rw c.in-Pages.is at c.requires.place in
    step_stands c.args.work.now c.args.at _ _ _ _ c.print_step.result at.kind c.print_step.ensures.stepped c.print_step.ensures.next_place
