use Rattle.std.proofs.Common.{List, ℕ, length, ap, arith}
use Rattle.qm_tables.proofs.Spooling.{sized_more}
use Rattle.qm_tables.proofs.spool.rows.size_of_all.Goals as goal

pub overflow_cast-size : goal.overflow_cast-size
overflow_cast-size c =
    omega (arith, sized_more c.args.files.now c.loop-file.file-index c.file-item.result c.loop-file-test.true c.file-item.is, ap (λ (b : List ℕ). length b) c.as_slice.ensures.value, c.requires)

pub overflow_add-size : goal.overflow_add-size
overflow_add-size c =
    omega (arith, sized_more c.args.files.now c.loop-file.file-index c.file-item.result c.loop-file-test.true c.file-item.is, ap (λ (b : List ℕ). length b) c.as_slice.ensures.value, c.requires, c.loop-file.invariant)
