use Rattle.std.proofs.Common.{◌≡◌, ◌≤◌, ◌<◌, ◌++◌, length, drop, take, flat_map}
use Rattle.qm_model.specs.Pages.{line_block}
use Rattle.qm_symb.specs.TextParts.{section}
use Rattle.qm_symb.specs.PageLines.{IsInFront, printed_lines}
use Rattle.qm_symb.proofs.print.page.write_lines.Given as goal

-- the lines so far are those in front of the place, and they are written
abbrev pub invariant-loop-row : goal.invariant-loop-row
invariant-loop-row l = record {
  front : IsInFront l.shape l.text (drop l.at l.text) l.row;
  moves : 0 < l.row → 0 < l.at;
  inside : l.at ≤ length l.text;
  written : l.block.items ≡ l.initial.block.items ++ flat_map (line_block l.shape.left) (take l.row (printed_lines l.shape (section l.text)));
}
