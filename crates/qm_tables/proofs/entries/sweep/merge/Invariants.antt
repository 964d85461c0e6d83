use Rattle.std.proofs.Common.{◌≡◌, ◌++◌, count_by, map, take, drop}
use Rattle.qm_model.specs.Merging.{moved_to, waits_in}
use Rattle.qm_tables.specs.Boxed.{contents}
use Rattle.qm_tables.proofs.entries.sweep.merge.Given as goal

-- the entries so far have their homes, and those of them that waited are counted
abbrev pub invariant-loop-entry : goal.invariant-loop-entry
invariant-loop-entry l = record {
  homes : contents l.boxes ≡ map (moved_to l.to l.from) (take l.entry-index (contents l.initial.boxes)) ++ drop l.entry-index (contents l.initial.boxes);
  moved : l.moved ≡ count_by (waits_in l.from) (take l.entry-index (contents l.initial.boxes));
}
