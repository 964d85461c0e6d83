use Rattle.qm_parts.proofs.Left.{stays, idle_added}
use Rattle.qm_parts.proofs.tables.TableSet.insert_entry.Goals as goal

pub invariant_of-self : goal.invariant_of-self
invariant_of-self c =
    rw c.insert.ensures
    (stays c.self.inside.runs.runs c.self.inside.entries.entries _ c.self.invariant (idle_added c.self.inside.entries.entries c.args.entry c.requires.no_run))
