use Rattle.std.proofs.Common.{◌≡◌, ◌∙◌, ℕ, true, false, not, Option, None, Some, is_some, [], refl, sym, ap}
use Rattle.std.specs.List.{cons_option}
use Rattle.qm_model.specs.Common.{Entry, Run}
use Rattle.qm_parts.proofs.Mirrored.{no_run}
use Rattle.qm_parts.proofs.Left.{stays, absent_stays, entry_gone, same_run}
use Rattle.qm_parts.proofs.tables.TableSet.replace_entry.Goals as goal

is_nothing : (o : Option ℕ) → is_some o ≡ false → o ≡ None
is_nothing None is = refl
is_nothing (Some n) is = absurd (cc)

is_something : (o : Option ℕ) → is_some o ≡ true → o ≡ None → ⊥
is_something None is none = cc
is_something (Some n) is none = cc

pub invariant_of-self : goal.invariant_of-self
invariant_of-self c =
    rw (c.replace.ensures.entries, absent_stays c.args.entry.number (λ (e : Entry). Some c.args.entry) c.self.inside.entries.entries (sym c.in_default.ensures.replaced))
    c.self.invariant

pub invariant_of-self-then-is_none : goal.invariant_of-self-then-is_none
invariant_of-self-then-is_none c =
    rw c.replace.ensures.entries
    (entry_gone c.self.inside.runs.runs c.self.inside.entries.entries c.self.invariant c.args.entry.number (λ (e : Entry). Some c.args.entry)
    (λ k d within is. ap (λ (o : Option Run). cons_option o []) (no_run c.args.entry (sym c.run_of.ensures ∙ is_nothing c.run_of.result (c.is_none.ensures ∙ ap not c.if-is_none.true))))
    c.see_order.ensures.entries c.see_order.ensures.runs c.in-Some.old (sym c.in-Some.ensures.replaced) c.end_run.new.runs.runs c.end_run.ensures.runs)

pub invariant_of-self-else-is_none : goal.invariant_of-self-else-is_none
invariant_of-self-else-is_none c =
    let keeps = rw (← c.self.view_is) at c.requires in
    rw c.replace.ensures.entries
    (stays c.self.inside.runs.runs c.self.inside.entries.entries _ c.self.invariant
    (same_run c.self.inside.entries.entries c.see_order.ensures.entries c.args.entry c.in-Some.old (sym c.in-Some.ensures.replaced) keeps (λ none. is_something c.run_of.result (c.is_none.ensures ∙ ap not c.if-is_none.false) (c.run_of.ensures ∙ none))))
