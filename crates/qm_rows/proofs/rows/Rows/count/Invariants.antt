use Rattle.std.proofs.Common.{◌≡◌, ◌+◌, drop, flat_map, length}
use Rattle.qm_rows.proofs.rows.Rows.count.Given as goal

-- the rows are those that were counted, and those of the parts that are left
abbrev pub invariant-loop-part : goal.invariant-loop-part
invariant-loop-part l = l.count + length (flat_map (λ part. part) (drop l.part-index l.part-items)) ≡ length l.self
