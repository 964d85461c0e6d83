use Rattle.std.proofs.Common.{◌∙◌, ap, sym, find, option_map}
use Rattle.std.proofs.Math.ListN.{drop_of_length-le}
use Rattle.qm_kinds.specs.declared.queue.Queue.{Queue}
use Rattle.qm_kinds.specs.declared.refusal.Holder.TheVariants as holder
use Rattle.qm_kinds.specs.declared.refusal.Refusal.TheVariants.{Referenced}
use Rattle.qm_rules.specs.Naming.{queue_names}
use Rattle.qm_rules.proofs.Given.{find_hit, find_miss}
use Rattle.qm_rules.proofs.naming.refused_by_queue.Goals as goal

pub returns-then-queue_names : goal.returns-then-queue_names
returns-then-queue_names c =
    let hit = find_hit (queue_names c.args.named.now) c.args.queues.now c.loop-queue.queue-index c.queue-item.result c.loop-queue-test.true c.queue-item.is (sym c.queue_names.ensures ∙ c.if-queue_names.true) in
    sym (ap (option_map (λ (q : Queue). Referenced (holder.Queue q.name))) (sym c.loop-queue.invariant ∙ hit))

pub loop-queue-preserved : goal.loop-queue-preserved
loop-queue-preserved c =
    find_miss (queue_names c.args.named.now) c.args.queues.now c.loop-queue.queue-index c.queue-item.result c.loop-queue-test.true c.queue-item.is (sym c.queue_names.ensures ∙ c.if-queue_names.false)
    ∙ c.loop-queue.invariant

pub returns : goal.returns
returns c =
    let none = ap (find (queue_names c.args.named.now)) (drop_of_length-le c.args.queues.now c.loop-queue-test.false) in
    sym (ap (option_map (λ (q : Queue). Referenced (holder.Queue q.name))) (sym c.loop-queue.invariant ∙ none))
