use Rattle.std.proofs.Common.{◌≡◌, ◌++◌, flat_map, map, take}
use Rattle.qm_sjc.specs.Printed.{items_line}
use Rattle.qm_history.specs.Text.{behind}
use Rattle.qm_show.proofs.turn.push_items.Given as goal

-- the parts so far have their lines
abbrev pub invariant-loop-part : goal.invariant-loop-part
invariant-loop-part l = l.out.items ≡ l.initial.out.items ++ behind l.front (map items_line (flat_map (λ part. part) (take l.part-index l.part-items)))
