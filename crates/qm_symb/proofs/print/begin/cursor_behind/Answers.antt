use Rattle.std.proofs.Common.{drop, sym, ap, ◌∙◌, drop-drop}
use Rattle.qm_model.specs.Pages.{page_blocks}
use Rattle.qm_symb.proofs.print.begin.cursor_behind.Goals as goal

pub loop-count-preserved : goal.loop-count-preserved
loop-count-preserved c = sym c.in-Some.ensures.rest ∙ ap (drop 1) c.loop-count.invariant ∙ drop-drop 1 c.loop-count.count (page_blocks c.args.work.now)
