-- The bytes read are those that the source has lost, and they are no more than the limit, for which there is room.
use Rattle.std.proofs.Common.{◌≡◌, ◌-◌, ◌≤◌, vec_len, vec_capacity, is_some}
use Rattle.std.specs.Io.KnownBytes.{Consumes}
use Rattle.qm_disk.proofs.io.whole.read_whole.Given as goal

abbrev pub invariant-loop-bytes : goal.invariant-loop-bytes
invariant-loop-bytes g l =
    let remaining = g.S.Source.remaining in
    let faults = g.S.Source.faults in
    (vec_len l.bytes ≤ l.limit) × (l.limit ≤ vec_capacity l.bytes) × Consumes (remaining l.initial.source) (remaining l.source) l.bytes.items × (is_some (remaining l.source) ≡ is_some (remaining l.initial.source)) × (faults l.source ≡ faults l.initial.source)

abbrev pub decreases-loop-bytes : goal.decreases-loop-bytes
decreases-loop-bytes g l = l.limit - vec_len l.bytes
