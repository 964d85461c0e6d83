use Rattle.std.proofs.Common.{◌≡◌, count_by}
use Rattle.qm_parts.specs.Nodes.{is_run_on_one}
use Rattle.qm_image.specs.Image.{system_of}
use Rattle.qm_making.specs.Keeping.{KeepsOthers}
use Rattle.qm_image.specs.Losing.{entries_left, HasTimersFor}
use Rattle.qm_making.proofs.nodes.lose_runs.Given as goal

-- the loss of the nodes leaves the same entries still, nothing else has changed, and there is room for the timers of the others
abbrev pub invariant-loop-entry : goal.invariant-loop-entry
invariant-loop-entry l = record {
  left : entries_left l.fn.image.parts.queues l.now l.lost l.image.parts.entries ≡ entries_left l.fn.image.parts.queues l.now l.lost l.fn.image.parts.entries;
  rows : system_of l.image ≡ record (system_of l.fn.image) { entries = l.image.parts.entries };
  others : KeepsOthers l.fn.image l.image;
  room : HasTimersFor l.lost l.image.parts;
}

-- each time one run less is on these nodes
abbrev pub decreases-loop-entry : goal.decreases-loop-entry
decreases-loop-entry l = count_by (is_run_on_one l.lost) l.image.parts.entries
