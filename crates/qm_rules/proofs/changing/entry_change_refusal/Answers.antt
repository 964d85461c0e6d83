use Rattle.std.proofs.Common.{◌∙◌, not, ap}
use Rattle.qm_kinds.specs.declared.refusal.Refusal.TheVariants.{EntryBusy, NotHeld, WrongKind}
use Rattle.qm_model.specs.Outcome.{refused_where}
use Rattle.qm_rules.proofs.Gathered.{gathered}
use Rattle.qm_rules.proofs.changing.entry_change_refusal.Goals as goal

pub returns : goal.returns
returns c = λ s forms queues.
    let busy = c.refused_where.ensures ∙ ap (λ b. refused_where (not b) (EntryBusy c.args.entry.now.state)) c.is_waiting.ensures in
    let held = c.refused_where-2.ensures ∙ ap (λ b. refused_where b NotHeld) c.is_release_of_pending.ensures in
    let queue = c.refused_queue.ensures s queues in
    let wrong = c.refused_where-3.ensures ∙ ap (λ b. refused_where b WrongKind) (c.is_entry_of_other_kind.ensures s queues) in
    let form = c.refused_form.ensures s forms in
    let characteristics = c.refused_characteristics.ensures s forms in
    c.first_refusal.ensures ∙ gathered s c.args.change.now c.args.entry.now _ _ _ _ _ _ busy held queue wrong form characteristics
