use Rattle.std.proofs.Common.{refl, arith}
use Rattle.qm_model.specs.Due.{entry_at}
use Rattle.qm_tables.proofs.Numbers.{order_mapped}
use Rattle.qm_tables.proofs.entries.table.EntryTable.wake.Goals as goal

pub invariant_of-self : goal.invariant_of-self
invariant_of-self c = (
  rw c.wake.ensures.entries (order_mapped (entry_at c.args.now) c.self.inside.shelf.entries (λ e. refl) c.self.invariant.0),
  λ ready. omega (arith, c.self.invariant.1 ready, c.wake.ensures.room),
)
