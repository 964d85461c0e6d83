use Rattle.std.proofs.Common.{ap, ◌∙◌}
use Rattle.qm_tables.specs.Entries.{Kept}
use Rattle.qm_parts.specs.Mirror.{runs_of}
use Rattle.qm_parts.proofs.Swept.{still_mirrors, runs_without_over}
use Rattle.qm_parts.proofs.tables.TableSet.remove_over.Goals as goal

pub invariant_of-self : goal.invariant_of-self
invariant_of-self c =
    still_mirrors c.self.inside.runs.runs c.self.inside.entries.entries c.remove_over.new.self.entries c.self.invariant
    (ap (λ (k : Kept). runs_of k.entries) c.remove_over.ensures ∙ runs_without_over c.args.now c.self.inside.entries.entries)
