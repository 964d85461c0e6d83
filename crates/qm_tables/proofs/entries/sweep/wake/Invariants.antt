use Rattle.std.proofs.Common.{◌≡◌, ◌++◌, map, take, drop}
use Rattle.qm_model.specs.Due.{entry_at}
use Rattle.qm_tables.specs.Boxed.{contents}
use Rattle.qm_tables.proofs.entries.sweep.wake.Given as goal

-- the entries so far are those that the moment finds
abbrev pub invariant-loop-entry : goal.invariant-loop-entry
invariant-loop-entry l = contents l.boxes ≡ map (entry_at l.now) (take l.entry-index (contents l.initial.boxes)) ++ drop l.entry-index (contents l.initial.boxes)
