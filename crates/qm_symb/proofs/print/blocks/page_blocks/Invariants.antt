use Rattle.std.proofs.Common.{◌≡◌, ◌++◌, length, map}
use Rattle.qm_model.specs.Pages.{page_blocks}
use Rattle.qm_symb.specs.PagePlaces.{blocks_from}
use Rattle.qm_symb.proofs.print.blocks.page_blocks.Given as goal

-- the blocks so far, and those that are left
abbrev pub invariant-loop-blocks : goal.invariant-loop-blocks
invariant-loop-blocks l = map (λ block. block.items) l.blocks.items ++ blocks_from l.work l.cursor ≡ page_blocks l.work

abbrev pub decreases-loop-blocks : goal.decreases-loop-blocks
decreases-loop-blocks l = length (blocks_from l.work l.cursor)
