use Rattle.std.proofs.Common.{◌≡◌, ◌++◌, replicate}
use Rattle.qm_symb.proofs.print.page.write_margin.Given as goal

abbrev pub invariant-loop-row : goal.invariant-loop-row
invariant-loop-row l = l.block.items ≡ l.initial.block.items ++ replicate l.row l.byte
