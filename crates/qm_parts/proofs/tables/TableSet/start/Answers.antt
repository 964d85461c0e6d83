use Rattle.qm_parts.proofs.Left.{start_mirrors}
use Rattle.qm_parts.proofs.tables.TableSet.start.Goals as goal

pub invariant_of-self : goal.invariant_of-self
invariant_of-self c =
    let pending = rw (← c.self.view_is) at c.requires.pending in
    rw (c.set_state.ensures.entries, c.start-run.ensures.runs, c.start-run.ensures.number)
    (start_mirrors c.self.inside.runs.runs c.self.inside.entries.entries c.self.invariant c.see_order.ensures.entries c.args.number c.self.inside.runs.next c.args.queue c.args.node pending)
