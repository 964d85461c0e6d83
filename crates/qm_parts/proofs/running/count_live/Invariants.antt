use Rattle.std.proofs.Common.{◌≡◌, ◌≤◌, count_by, take}
use Rattle.qm_parts.specs.Mirror.{is_live_in}
use Rattle.qm_parts.proofs.running.count_live.Given as goal

-- those that were passed are counted
abbrev pub invariant-loop-run : goal.invariant-loop-run
invariant-loop-run l = record {
  count : l.count ≡ count_by (is_live_in l.entries.entries l.queue) (take l.run-index l.runs);
  few : l.count ≤ l.run-index;
}
