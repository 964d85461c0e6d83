use Rattle.std.proofs.Common.{sym, ap, ◌∙◌, drop}
use Rattle.std.proofs.lemmas.List.{take_rest}
use Rattle.qm_symb.proofs.PlaceLemmas.{flag_first, page_first, one_less}
use Rattle.qm_symb.proofs.print.cursor.Cursor.behind_block.Goals as goal

pub returns-then-self : goal.returns-then-self
returns-then-self c = one_less _ _ _ (flag_first c.args.work.now c.args.self c.if-self.true)

pub returns : goal.returns
returns c =
    let plain = c.turned-here.ensures.flag ∙ c.if-self.false in
    let here = take_rest c.as_slice.result.now c.turned-here.result.at ∙ ap (drop c.turned-here.result.at) c.as_slice.ensures in
    one_less _ _ _ (sym c.turned-here.ensures.same ∙ page_first c.args.work.now c.turned-here.result c.turned-here.result.flag c.behind_page-next.result _ plain plain here c.behind_page-next.ensures.page)
