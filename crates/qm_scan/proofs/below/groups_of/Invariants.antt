use Rattle.std.proofs.Common.{◌≡◌, length, take}
use Rattle.qm_tables.specs.Boxed.{contents}
use Rattle.qm_scan.specs.Listed.{AreBelow}
use Rattle.qm_scan.proofs.below.groups_of.Given as goal

abbrev pub invariant-loop-boxed : goal.invariant-loop-boxed
invariant-loop-boxed l = record {
  count : length l.groups.items ≡ length l.queues;
  below : AreBelow l.query l.queues (take l.boxed-index (contents l.entries)) l.groups.items;
}
