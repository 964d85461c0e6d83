use Rattle.std.proofs.Common.{◌∙◌, ◌&&◌, length, sym, ap, arith, find}
use Rattle.qm_model.specs.Common.{After, Queue, is_past}
use Rattle.qm_kinds.specs.declared.query.Row.TheVariants as row
use Rattle.qm_scan.proofs.Behind.{slice_from}
use Rattle.qm_scan.proofs.Found.{find_never, find_at_end}
use Rattle.qm_scan.proofs.places.queues_past.Goals as goal

pub returns-in-Name : goal.returns-in-Name
returns-in-Name c = λ p.
    ap (λ (last : After). find (λ (q : Queue). is_past last (row.Queue q) && p q) c.args.queues.now) c.in-Name.is
    ∙ c.place_behind_name.ensures.behind p
    ∙ sym (ap (find p) (slice_from c.args.queues.now c.place_behind_name.result c.place_behind_name.ensures.within))

pub returns-in-Number : goal.returns-in-Number
returns-in-Number c = λ p.
    ap (λ (last : After). find (λ (q : Queue). is_past last (row.Queue q) && p q) c.args.queues.now) c.in-Number.is
    ∙ find_never p c.args.queues.now
    ∙ sym (ap (find p) (slice_from c.args.queues.now (length c.args.queues.now) (omega arith)) ∙ find_at_end p c.args.queues.now (length c.args.queues.now) (omega arith))
