use Rattle.std.proofs.Common.{◌∙◌, Bool, cond, List, Some, sym, ap}
use Rattle.qm_model.specs.Common.{Entry, Fate, with_fate, reset_fate, reset_in}
use Rattle.qm_tables.proofs.Numbers.{kept_as}
use Rattle.qm_parts.proofs.Left.{absent_stays, agree_at_it, stays_at_it}
use Rattle.qm_parts.proofs.fates.reset_entry.Goals as goal

pub returns-in_default : goal.returns-in_default
returns-in_default c =
    ap (λ (es : List Entry). kept_as es c.args.entries.now.spare)
    (sym (absent_stays c.args.number (λ (e : Entry). Some (reset_in c.args.queue.now e)) c.args.entries.now.entries (sym c.in_default.ensures.found)))

pub returns-then-is_running_in : goal.returns-then-is_running_in
returns-then-is_running_in c =
    c.set_fate.ensures
    ∙ ap (λ (es : List Entry). kept_as es c.args.entries.now.spare)
    (agree_at_it c.args.number (λ (e : Entry). Some (with_fate c.reset_fate-fate.result e)) (λ (e : Entry). Some (reset_in c.args.queue.now e)) c.args.entries.now.entries
    c.get.ensures.in_order c.in-Some.entry.now (sym c.in-Some.ensures.found)
    (ap (λ (f : Fate). Some (with_fate f c.in-Some.entry.now)) c.reset_fate-fate.ensures
    ∙ sym (ap (λ (b : Bool). Some (cond b (with_fate (reset_fate c.in-Some.entry.now) c.in-Some.entry.now) c.in-Some.entry.now)) (sym c.is_running_in.ensures ∙ c.if-is_running_in.true))))

pub returns-else-is_running_in : goal.returns-else-is_running_in
returns-else-is_running_in c =
    ap (λ (es : List Entry). kept_as es c.args.entries.now.spare)
    (sym (stays_at_it c.args.number (λ (e : Entry). Some (reset_in c.args.queue.now e)) c.args.entries.now.entries c.get.ensures.in_order c.in-Some.entry.now (sym c.in-Some.ensures.found)
    (ap (λ (b : Bool). Some (cond b (with_fate (reset_fate c.in-Some.entry.now) c.in-Some.entry.now) c.in-Some.entry.now)) (sym c.is_running_in.ensures ∙ c.if-is_running_in.false))))
