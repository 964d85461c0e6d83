use Rattle.std.proofs.Common.{not, arith, bytes_eq}
use Rattle.qm_kinds.specs.declared.entry.Entry.{Entry}
use Rattle.qm_tables.proofs.Numbers.{order_kept}
use Rattle.qm_tables.proofs.entries.table.EntryTable.remove_of_home.Goals as goal

pub invariant_of-self : goal.invariant_of-self
invariant_of-self c = (
  rw c.remove_of_home.ensures.entries (order_kept (λ (e : Entry). not (bytes_eq e.home c.args.home.now)) c.self.inside.shelf.entries c.self.invariant.0),
  λ ready. omega (arith, c.self.invariant.1 ready, c.remove_of_home.ensures.room),
)
