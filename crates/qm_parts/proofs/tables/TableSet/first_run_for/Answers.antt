use Rattle.std.proofs.Common.{◌∙◌}
use Rattle.qm_parts.proofs.Asked.{first_for}
use Rattle.qm_parts.proofs.tables.TableSet.first_run_for.Goals as goal

pub returns : goal.returns
returns c =
    rw (← c.self.view_is)
    (rw c.as_slice.ensures.runs at c.least_of_runs.ensures
    ∙ first_for c.self.inside.runs.runs c.self.inside.entries.entries c.self.invariant c.see_order.ensures.entries c.args.queue.now)
