use Rattle.std.proofs.Common.{None, refl, sym}
use Rattle.qm_kinds.specs.declared.entry.Entry.{Entry}
use Rattle.qm_parts.proofs.Left.{unrun, none_of_absent, entry_gone}
use Rattle.qm_parts.proofs.tables.TableSet.remove_entry.Goals as goal

pub invariant_of-self : goal.invariant_of-self
invariant_of-self c =
    rw c.remove.ensures.entries
    (unrun c.self.inside.runs.runs c.self.inside.entries.entries c.self.invariant c.args.number (λ (e : Entry). None) (λ k d within is. refl)
    (none_of_absent c.self.inside.runs.runs c.self.inside.entries.entries c.self.invariant c.args.number (sym c.in_default.ensures.removed)))

pub invariant_of-self-2 : goal.invariant_of-self-2
invariant_of-self-2 c =
    rw c.remove.ensures.entries
    (entry_gone c.self.inside.runs.runs c.self.inside.entries.entries c.self.invariant c.args.number (λ (e : Entry). None) (λ k d within is. refl)
    c.see_order.ensures.entries c.see_order.ensures.runs c.in-Some.entry (sym c.in-Some.ensures.removed) c.end_run.new.runs.runs c.end_run.ensures.runs)
