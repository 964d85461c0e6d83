use Rattle.std.proofs.Common.{◌≡◌, drop}
use Rattle.qm_model.specs.Pages.{page_blocks}
use Rattle.qm_symb.specs.PagePlaces.{blocks_from}
use Rattle.qm_symb.proofs.print.begin.cursor_behind.Given as goal

-- the cursor stands behind so many blocks
abbrev pub invariant-loop-count : goal.invariant-loop-count
invariant-loop-count l = blocks_from l.work l.cursor ≡ drop l.count (page_blocks l.work)
