use Rattle.std.proofs.Common.{ap, ◌∙◌}
use Rattle.qm_tables.specs.Entries.{Kept}
use Rattle.qm_parts.specs.Mirror.{runs_of}
use Rattle.qm_parts.proofs.Swept.{still_mirrors, runs_at}
use Rattle.qm_parts.proofs.tables.TableSet.wake.Goals as goal

pub invariant_of-self : goal.invariant_of-self
invariant_of-self c =
    still_mirrors c.self.inside.runs.runs c.self.inside.entries.entries c.wake.new.self.entries c.self.invariant
    (ap (λ (k : Kept). runs_of k.entries) c.wake.ensures ∙ runs_at c.args.now c.self.inside.entries.entries)
