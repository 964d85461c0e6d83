use Rattle.std.proofs.Common.{◌≡◌, ◌≤◌, length}
use Rattle.qm_image.specs.Image.{system_of}
use Rattle.qm_making.specs.Keeping.{KeepsOthers}
use Rattle.qm_image.specs.Timers.{entries_at}
use Rattle.qm_making.proofs.due.release_each.Given as goal

-- the moment finds the same entries still, and nothing else has changed
abbrev pub invariant-loop-number : goal.invariant-loop-number
invariant-loop-number l = record {
  found : entries_at l.now l.image.parts.entries ≡ entries_at l.now l.fn.image.parts.entries;
  rows : system_of l.image ≡ record (system_of l.fn.image) { entries = l.image.parts.entries };
  others : KeepsOthers l.fn.image l.image;
  room : l.fn.image.parts.spare_timers ≤ l.image.parts.spare_timers;
}

-- each entry that is released has a timer less
abbrev pub decreases-loop-number : goal.decreases-loop-number
decreases-loop-number l = length l.image.parts.timers
