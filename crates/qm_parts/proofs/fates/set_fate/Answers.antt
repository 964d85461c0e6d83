use Rattle.std.proofs.Common.{◌∙◌, List, Some, sym, ap}
use Rattle.qm_model.specs.Common.{Entry, EntryState, with_fate}
use Rattle.qm_tables.proofs.Numbers.{kept_as}
use Rattle.qm_parts.proofs.Left.{absent_stays, agree_at_it}
use Rattle.qm_parts.proofs.fates.set_fate.Goals as goal

pub returns-in_default : goal.returns-in_default
returns-in_default c =
    ap (λ (es : List Entry). kept_as es c.args.entries.now.spare)
    (sym (absent_stays c.args.number (λ (e : Entry). Some (with_fate c.args.fate e)) c.args.entries.now.entries (sym c.in_default.ensures.found)))

pub returns : goal.returns
returns c =
    c.set_state.ensures.entries
    ∙ ap (λ (es : List Entry). kept_as es c.args.entries.now.spare)
    (agree_at_it c.args.number (λ (e : Entry). Some (record e { state = c.state_with_fate-state.result })) (λ (e : Entry). Some (with_fate c.args.fate e)) c.args.entries.now.entries
    c.get.ensures.in_order c.in-Some.entry.now (sym c.in-Some.ensures.found)
    (ap (λ (s : EntryState). Some (record c.in-Some.entry.now { state = s })) c.state_with_fate-state.ensures))
