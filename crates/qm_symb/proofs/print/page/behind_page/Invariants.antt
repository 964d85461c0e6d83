use Rattle.std.proofs.Common.{◌≤◌, ◌<◌, length, drop}
use Rattle.qm_symb.specs.PageLines.{IsInFront}
use Rattle.qm_symb.proofs.print.page.behind_page.Given as goal

-- the lines so far are those in front of the place
abbrev pub invariant-loop-row : goal.invariant-loop-row
invariant-loop-row l = record {
  front : IsInFront l.shape l.text (drop l.at l.text) l.row;
  moves : 0 < l.row → 0 < l.at;
  inside : l.at ≤ length l.text;
}
