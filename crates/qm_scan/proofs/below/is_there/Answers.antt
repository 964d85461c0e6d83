use Rattle.std.proofs.Common.{◌≡◌, ◌∙◌, get_or, true, sym, ap, bytes_eq}
use Rattle.std.proofs.lemmas.List.{get_or_default}
use Rattle.qm_kinds.specs.declared.queue.Queue.{Queue}
use Rattle.qm_scan.proofs.Named.{named_at}
use Rattle.qm_scan.proofs.below.is_there.Goals as goal

pub returns-then-place-queues-clause-named : goal.returns-then-place-queues-clause-named
returns-then-place-queues-clause-named c = λ same there queue at.
    named_at c.args.queues.now c.args.name.now c.requires c.args.place c.if-place-queues.true (found same) there queue at
  where
    found : c.eq.result ≡ true → (d : Queue) → bytes_eq (get_or c.args.queues.now c.args.place d).name c.args.name.now ≡ true
    found same d =
        ap (λ (q : Queue). bytes_eq q.name c.args.name.now)
        (get_or_default c.args.queues.now c.args.place d c.index-queues-place.result c.if-place-queues.true)
        ∙ sym c.eq.ensures ∙ same
