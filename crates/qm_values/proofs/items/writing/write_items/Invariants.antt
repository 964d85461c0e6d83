use Rattle.std.proofs.Common.{◌≡◌, take}
use Rattle.qm_values.specs.ItemText.{text}
use Rattle.qm_values.proofs.items.writing.write_items.Given as goal

-- the items so far are written
abbrev pub invariant-loop-item : goal.invariant-loop-item
invariant-loop-item l = l.out.items ≡ text (take l.item-index l.items)
