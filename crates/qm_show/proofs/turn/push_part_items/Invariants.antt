use Rattle.std.proofs.Common.{◌≡◌, ◌++◌, map, take}
use Rattle.qm_sjc.specs.Printed.{items_line}
use Rattle.qm_history.specs.Text.{behind}
use Rattle.qm_show.proofs.turn.push_part_items.Given as goal

-- the rows so far have their lines
abbrev pub invariant-loop-row : goal.invariant-loop-row
invariant-loop-row l = l.out.items ≡ l.initial.out.items ++ behind l.front (map items_line (take l.row-index l.rows))
