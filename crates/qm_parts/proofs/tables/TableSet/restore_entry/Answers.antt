use Rattle.qm_parts.specs.Mirror.{run_of_entry}
use Rattle.qm_parts.proofs.Asked.{not_in_table}
use Rattle.qm_parts.proofs.Left.{restored}
use Rattle.qm_parts.proofs.tables.TableSet.restore_entry.Goals as goal

pub put_run-requires : goal.put_run-requires
put_run-requires c =
    let given = rw (← c.self.view_is) at c.requires.run in
    not_in_table c.self.inside.runs.runs c.self.inside.entries.entries c.self.invariant c.self.inside.runs.spare c.self.inside.runs.next (run_of_entry c.args.entry) given

pub invariant_of-self : goal.invariant_of-self
invariant_of-self c =
    rw c.insert.ensures
    (restored c.self.inside.runs.runs c.self.inside.entries.entries c.self.invariant c.args.entry c.put_run.new.runs.runs c.put_run.ensures.runs)
