use Rattle.std.proofs.Common.{sym, ap, ◌∙◌}
use Rattle.qm_model.specs.Pages.{page_blocks}
use Rattle.qm_symb.specs.PagePlaces.{blocks_from}
use Rattle.qm_symb.proofs.StepLemmas.{next_place, behind_the_end}
use Rattle.qm_symb.proofs.print.step.print_step.Goals as goal

pub returns-in_default-clause-next_place : goal.returns-in_default-clause-next_place
returns-in_default-clause-next_place g c =
    let done = rw c.in_default.is at c.in_ok-block.ensures.block in
    ap (blocks_from c.args.work.now) done.same ∙ done.none
    ∙ sym (behind_the_end (page_blocks c.args.work.now) c.args.at.at (sym c.requires.place ∙ done.none))

pub returns-then-is_err-clause-next_place : goal.returns-then-is_err-clause-next_place
returns-then-is_err-clause-next_place g c =
    let e = rw c.in-Some.is at c.in_ok-block.ensures.block in
    next_place (page_blocks c.args.work.now) (blocks_from c.args.work.now c.args.cursor.now) c.args.at.at _ _ c.requires.place e

pub report_behind-requires-clause-place : goal.report_behind-requires-clause-place
report_behind-requires-clause-place g c =
    let e = rw c.in-Some.is at c.in_ok-block.ensures.block in
    next_place (page_blocks c.args.work.now) (blocks_from c.args.work.now c.args.cursor.now) c.args.at.at _ _ c.requires.place e

pub returns-clause-next_place : goal.returns-clause-next_place
returns-clause-next_place g c =
    let e = rw c.in-Some.is at c.in_ok-block.ensures.block in
    next_place (page_blocks c.args.work.now) (blocks_from c.args.work.now c.args.cursor.now) c.args.at.at _ _ c.requires.place e
