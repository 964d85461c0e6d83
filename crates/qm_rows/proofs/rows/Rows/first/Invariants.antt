use Rattle.std.proofs.Common.{◌≡◌, drop, flat_map}
use Rattle.qm_rows.proofs.rows.Rows.first.Given as goal

-- the rows are those of the parts that are left
abbrev pub invariant-loop-part : goal.invariant-loop-part
invariant-loop-part l = flat_map (λ part. part) (drop l.part-index l.part-items) ≡ l.self
