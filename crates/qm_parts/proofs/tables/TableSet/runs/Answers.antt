use Rattle.std.proofs.Common.{◌∙◌, List, ap, filter_map}
use Rattle.qm_kinds.specs.declared.run.Run.{Run}
use Rattle.qm_parts.specs.ByRun.{entry_on}
use Rattle.qm_parts.proofs.ByRun.{entries_by_run}
use Rattle.qm_parts.proofs.tables.TableSet.runs.Goals as goal

pub returns : goal.returns
returns c node =
    rw (← c.self.view_is)
    (ap (λ (rs : List Run). filter_map (entry_on node c.self.inside.entries.entries) rs) c.as_slice.ensures.runs
    ∙ entries_by_run c.self.inside.runs.runs c.self.inside.entries.entries c.self.invariant c.see_order.ensures.runs c.see_order.ensures.entries node)
