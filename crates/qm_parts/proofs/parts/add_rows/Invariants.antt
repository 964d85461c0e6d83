use Rattle.std.proofs.Common.{◌≡◌, ◌<◌, ◌≤◌, length, get_or, ℕ}
use Rattle.qm_kinds.specs.declared.queue.Queue.{Queue}
use Rattle.qm_parts.specs.Rooms.{reach, rooms_of}
use Rattle.qm_parts.proofs.parts.add_rows.Given as goal

-- there are rows for the queues that were passed
abbrev pub invariant-loop-queue : goal.invariant-loop-queue
invariant-loop-queue l = record {
  count : length l.rows.items ≡ l.queue-index;
  room : (k : ℕ) (q : Queue) → k < l.queue-index → reach l.tables.queues l.tables.entries (get_or l.tables.queues k q) ≤ get_or (rooms_of l.rows.items) k 0;
}
