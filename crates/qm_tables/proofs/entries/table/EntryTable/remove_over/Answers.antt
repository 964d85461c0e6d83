use Rattle.std.proofs.Common.{not, arith}
use Rattle.qm_model.specs.Common.{is_over, Entry}
use Rattle.qm_tables.proofs.Numbers.{order_kept}
use Rattle.qm_tables.proofs.entries.table.EntryTable.remove_over.Goals as goal

pub invariant_of-self : goal.invariant_of-self
invariant_of-self c = (
  rw c.remove_over.ensures.entries (order_kept (λ (e : Entry). not (is_over c.args.now e.state)) c.self.inside.shelf.entries c.self.invariant.0),
  λ ready. omega (arith, c.self.invariant.1 ready, c.remove_over.ensures.room),
)
