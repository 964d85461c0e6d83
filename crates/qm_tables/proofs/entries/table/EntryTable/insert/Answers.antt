use Rattle.std.proofs.Common.{◌≡◌, false, true}
use Rattle.qm_tables.proofs.Numbers.{order_inserted}
use Rattle.qm_tables.proofs.entries.table.EntryTable.insert.Goals as goal

-- the entry goes behind the others, and no box is ready any more
pub invariant_of-self : goal.invariant_of-self
invariant_of-self c =
    let last = rw (← c.self.view_is) at c.requires.last in (
      rw c.put_last.ensures.entries (order_inserted c.self.inside.shelf.entries c.args.entry c.self.invariant.0 last),
      λ ready. let never : false ≡ true = rw c.put_last.ensures.ready at ready in absurd (cc),
    )
