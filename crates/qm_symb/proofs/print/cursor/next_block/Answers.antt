use Rattle.std.proofs.Common.{◌∷◌, ◌+◌, false, sym, ap, ◌∙◌, drop}
use Rattle.std.proofs.lemmas.List.{take_rest}
use Rattle.qm_symb.specs.PagePlaces.{blocks_from}
use Rattle.qm_symb.proofs.PlaceLemmas.{flag_first, page_first}
use Rattle.qm_symb.proofs.print.cursor.next_block.Goals as goal

pub returns-then-cursor-clause-block : goal.returns-then-cursor-clause-block
returns-then-cursor-clause-block c =
    flag_first c.args.work.now c.args.cursor.now c.if-cursor.true
    ∙ ap (λ block. block ∷ blocks_from c.args.work.now (record { flag = false; copies = c.args.cursor.now.copies; at = c.args.cursor.now.at })) (sym c.in_ok-block.ensures)

pub returns-clause-block : goal.returns-clause-block
returns-clause-block c =
    let plain = c.turned-here.ensures.flag ∙ c.if-cursor.false in
    let here = take_rest c.as_slice.result.now c.turned-here.result.at ∙ ap (drop c.turned-here.result.at) c.as_slice.ensures in
    sym c.turned-here.ensures.same
    ∙ page_first c.args.work.now c.turned-here.result c.turned-here.result.flag c.in_ok-page.page.next _ plain plain here c.in_ok-page.ensures.page
    ∙ ap (λ block. block ∷ blocks_from c.args.work.now (record { flag = c.turned-here.result.flag; copies = c.turned-here.result.copies; at = c.turned-here.result.at + c.in_ok-page.page.next })) (sym c.in_ok-page.ensures.block)
