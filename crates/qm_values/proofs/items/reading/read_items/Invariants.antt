use Rattle.std.proofs.Common.{◌-◌, length}
use Rattle.qm_values.proofs.ItemWalk.{Passed}
use Rattle.qm_values.proofs.items.reading.read_items.Given as goal

-- the items so far are those in front of the place
abbrev pub invariant-items : goal.invariant-items
invariant-items l = Passed l.bytes l.items.items l.place

abbrev pub decreases-items : goal.decreases-items
decreases-items l = length l.bytes - l.place
