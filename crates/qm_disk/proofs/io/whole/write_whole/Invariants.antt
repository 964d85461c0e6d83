-- The first `at` bytes have been taken.
use Rattle.std.proofs.Common.{◌≡◌, ◌-◌, ◌≤◌, length, take, is_some}
use Rattle.std.specs.Io.KnownBytes.{Appends}
use Rattle.qm_disk.proofs.io.whole.write_whole.Given as goal

abbrev pub invariant-loop-at : goal.invariant-loop-at
invariant-loop-at g l =
    let taken = g.O.Sink.taken in
    let faults = g.O.Sink.faults in
    (l.at ≤ length l.bytes) × Appends (taken l.initial.sink) (taken l.sink) (take l.at l.bytes) × (is_some (taken l.sink) ≡ is_some (taken l.initial.sink)) × (faults l.sink ≡ faults l.initial.sink)

abbrev pub decreases-loop-at : goal.decreases-loop-at
decreases-loop-at g l = length l.bytes - l.at
