use Rattle.std.proofs.Common.{◌∙◌, sym}
use Rattle.qm_parts.proofs.Asked.{entry_on_one, none_on_one}
use Rattle.qm_parts.proofs.tables.TableSet.first_run_on.Goals as goal

pub returns-in-None : goal.returns-in-None
returns-in-None c =
    rw (← c.self.view_is)
    (sym (none_on_one c.self.inside.runs.runs c.self.inside.entries.entries c.self.invariant c.see_order.ensures.entries c.args.nodes.now (rw c.as_slice.ensures.runs at c.in-None.ensures)))

pub returns-in-Some : goal.returns-in-Some
returns-in-Some c =
    rw (← c.self.view_is)
    (c.get.ensures.found
    ∙ entry_on_one c.self.inside.runs.runs c.self.inside.entries.entries c.self.invariant c.see_order.ensures.entries c.args.nodes.now c.in-Some.number (rw c.as_slice.ensures.runs at c.in-Some.ensures))
