use Rattle.std.proofs.Common.{Option, [], Some, get_or, ap}
use Rattle.std.specs.List.{cons_option}
use Rattle.qm_model.specs.Common.{Entry, Run, with_fate}
use Rattle.qm_parts.proofs.Left.{stays, kept_runs}
use Rattle.qm_parts.proofs.Resets.{run_with_fate}
use Rattle.qm_parts.proofs.tables.TableSet.set_fate.Goals as goal

pub invariant_of-self : goal.invariant_of-self
invariant_of-self c =
    rw c.set_fate.ensures
    (stays c.self.inside.runs.runs c.self.inside.entries.entries _ c.self.invariant
    (kept_runs c.args.number (λ (e : Entry). Some (with_fate c.args.fate e)) c.self.inside.entries.entries
    (λ k d within is. ap (λ (o : Option Run). cons_option o []) (run_with_fate c.args.fate (get_or c.self.inside.entries.entries k d)))))
