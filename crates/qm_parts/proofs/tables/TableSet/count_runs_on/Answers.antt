use Rattle.std.proofs.Common.{◌∙◌}
use Rattle.qm_model.specs.Common.{Run, is_among}
use Rattle.qm_parts.specs.Nodes.{is_run_on_one}
use Rattle.qm_parts.proofs.Mirrored.{count_as, run_on_one}
use Rattle.qm_parts.proofs.tables.TableSet.count_runs_on.Goals as goal

pub returns : goal.returns
returns c =
    rw (← c.self.view_is)
    (rw c.as_slice.ensures.runs at c.count_on.ensures
    ∙ count_as c.self.inside.runs.runs c.self.inside.entries.entries c.self.invariant (λ (r : Run). is_among c.args.nodes.now r.node) (is_run_on_one c.args.nodes.now) (run_on_one c.args.nodes.now c.self.inside.entries.entries))
