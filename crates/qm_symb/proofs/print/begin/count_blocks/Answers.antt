use Rattle.std.proofs.Common.{◌+◌, ◌*◌, length, sym, ap, ◌∙◌}
use mir.Val.{bool_byte}
use Rattle.qm_model.specs.Pages.{text_blocks}
use Rattle.qm_symb.proofs.CountLemmas.{blocks_counted}
use Rattle.qm_symb.proofs.print.begin.count_blocks.Goals as goal

pub returns : goal.returns
returns c =
    ap (λ n. bool_byte c.args.work.now.flag + c.args.work.now.copies * n)
    (c.pages_of-pages.ensures.count ∙ ap (λ text. length (text_blocks c.args.work.now.shape text)) c.as_slice.ensures) ∙ sym (blocks_counted c.args.work.now)
