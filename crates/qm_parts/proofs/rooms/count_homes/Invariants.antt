use Rattle.std.proofs.Common.{◌≡◌, ◌≤◌, count_by, take}
use Rattle.qm_tables.specs.Boxed.{contents}
use Rattle.qm_parts.specs.Rooms.{is_home}
use Rattle.qm_parts.proofs.rooms.count_homes.Given as goal

-- those that were passed are counted
abbrev pub invariant-loop-boxed : goal.invariant-loop-boxed
invariant-loop-boxed l = record {
  count : l.count ≡ count_by (is_home l.home) (take l.boxed-index (contents l.entries));
  few : l.count ≤ l.boxed-index;
}
