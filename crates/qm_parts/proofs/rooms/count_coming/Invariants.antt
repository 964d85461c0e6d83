use Rattle.std.proofs.Common.{◌≡◌, ◌≤◌, count_by, take}
use Rattle.qm_tables.specs.Boxed.{contents}
use Rattle.qm_parts.specs.Rooms.{leads_to, may_come}
use Rattle.qm_parts.proofs.rooms.count_coming.Given as goal

-- those that were passed are counted
abbrev pub invariant-loop-boxed : goal.invariant-loop-boxed
invariant-loop-boxed l = record {
  count : l.count ≡ count_by (may_come l.tables.queues l.queue) (take l.boxed-index (contents l.entries));
  few : l.count ≤ l.boxed-index;
  last : l.last.leads ≡ leads_to l.tables.queues l.queue l.last.home;
}
