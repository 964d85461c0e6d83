use Rattle.std.proofs.Common.{◌∙◌, [], ◌∷◌, Option, ap, sym, is_none, option_and_then}
use Rattle.qm_model.specs.Common.{Queue, queue_named, first_refusal, refused_where, change_refusal}
use Rattle.qm_kinds.specs.declared.refusal.Refusal.TheVariants.{NoSuchQueue, BadValue}
use Rattle.qm_rules.proofs.settings.set_queue_refusal.Goals as goal

pub returns : goal.returns
returns c = λ s forms queues.
    let found = c.get-queue.ensures.found ∙ sym (ap (queue_named c.args.name.now) queues.queues_are) in
    let absent = c.refused_absent.ensures ∙ ap (λ (o : Option Queue). refused_where (is_none o) (NoSuchQueue c.args.name.now)) found in
    let value = c.refused_where.ensures ∙ ap (λ b. refused_where b BadValue) c.is_bad_change.ensures in
    let change = c.refused_change_of.ensures s forms ∙ ap (option_and_then (λ (q : Queue). change_refusal s q.kind c.args.change.now)) found in
    c.first_refusal.ensures ∙ (λ t. first_refusal (absent t ∷ value t ∷ change t ∷ []))
