use Rattle.std.proofs.Common.{◌≡◌, ◌+◌, ◌-◌, ◌≤◌, length, drop}
use Rattle.qm_model.specs.Pages.{text_blocks}
use Rattle.qm_symb.proofs.print.begin.pages_of.Given as goal

-- the pages so far, and those that are left
abbrev pub invariant-loop-at : goal.invariant-loop-at
invariant-loop-at l = record {
  count : l.pages + length (text_blocks l.shape (drop l.at l.text)) ≡ length (text_blocks l.shape l.text);
  few : l.pages ≤ l.at;
  inside : l.at ≤ length l.text;
}

abbrev pub decreases-loop-at : goal.decreases-loop-at
decreases-loop-at l = length l.text - l.at
