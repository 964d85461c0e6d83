use Rattle.std.proofs.Common.{◌∙◌, [], ◌∷◌, ◌&&◌, Option, false, not, nat_le, length, ap, sym, is_none}
use Rattle.std.specs.Option.{option_and_then, option_map_or}
use Rattle.qm_model.specs.Common.{Queue, queue_named, is_same_queue_kind, first_refusal, refused_where}
use Rattle.qm_kinds.specs.declared.refusal.Refusal.TheVariants.{BadValue, DuplicateQueue, QueuesFull}
use Rattle.qm_model.specs.Queues.{refused_unless_stopped}
use Rattle.qm_rules.proofs.initializing.initialize_refusal.Goals as goal

pub returns : goal.returns
returns c = λ s agrees.
    let queues = sym agrees.has_queues.queues_are in
    let found = c.get-old.ensures.found ∙ ap (queue_named c.args.new.now.name) queues in
    let bad = c.refused_where.ensures ∙ ap (λ b. refused_where b BadValue) c.has_bad_value.ensures in
    let duplicate = c.refused_duplicate.ensures ∙ ap (λ (o : Option Queue). refused_where (option_map_or (λ q. not (is_same_queue_kind q.kind c.args.new.now.kind)) o false) DuplicateQueue) found in
    let stopped = c.refused_unless_stopped.ensures ∙ ap (option_and_then refused_unless_stopped) found in
    let full = c.refused_where-2.ensures ∙ ap (λ b. refused_where b QueuesFull) (c.is_full.ensures ∙ (λ t. is_none (found t) && nat_le 256 (length (queues t)))) in
    let node = c.refused_node.ensures s agrees.nodes_are in
    let targets = c.refused_targets.ensures s agrees.has_queues in
    let change = c.change_refusal.ensures s agrees.has_forms in
    c.first_refusal.ensures ∙ (λ t. first_refusal (bad t ∷ duplicate t ∷ stopped t ∷ full t ∷ node t ∷ targets t ∷ change t ∷ []))
