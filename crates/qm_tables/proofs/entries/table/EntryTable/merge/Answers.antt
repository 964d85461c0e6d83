use Rattle.std.proofs.Common.{arith}
use Rattle.qm_model.specs.Merging.{moved_to}
use Rattle.qm_tables.proofs.Numbers.{order_mapped, number_stays_moved}
use Rattle.qm_tables.proofs.entries.table.EntryTable.merge.Goals as goal

pub invariant_of-self : goal.invariant_of-self
invariant_of-self c = (
  rw c.merge.ensures.entries (order_mapped (moved_to c.args.to.now c.args.from.now) c.self.inside.shelf.entries (number_stays_moved c.args.to.now c.args.from.now) c.self.invariant.0),
  λ ready. omega (arith, c.self.invariant.1 ready, c.merge.ensures.room),
)
