use Rattle.std.proofs.Common.{List, arith, subst, bytes_eq}
use Rattle.qm_keyed.specs.Places.{StandsAt, BelongsAt}
use Rattle.qm_model.specs.Common.{Queue, name_cmp}
use Rattle.qm_tables.proofs.QueueNames.{name_of}
use Rattle.qm_parts.proofs.Widening.{only_there, none_named_so, raised_none, raised_there}
use Rattle.qm_parts.proofs.rooms.raise_named.Goals as goal

pub returns-in-Ok-clause-raised : goal.returns-in-Ok-clause-raised
returns-in-Ok-clause-raised c =
    let qs = c.args.tables.now.queues in
    let name = c.args.name.now in
    let stands = subst (λ (ps : List Queue). StandsAt name_cmp name_of name ps c.in-Ok.place) c.queues.ensures.queues c.in-Ok.ensures in
    raised_there qs (λ q. bytes_eq name q.name) c.args.bounds.now.items c.in-Ok.place c.index_mut.result.now c.raise.new.bound (omega (arith, stands.within, c.requires)) c.index_mut.ensures.value c.raise.ensures
    (only_there qs name c.in-Ok.place stands)

pub returns-in_default-clause-raised : goal.returns-in_default-clause-raised
returns-in_default-clause-raised c =
    let qs = c.args.tables.now.queues in
    let name = c.args.name.now in
    let belongs = subst (λ (ps : List Queue). BelongsAt name_cmp name_of name ps c.in_default.field-0) c.queues.ensures.queues c.in_default.ensures in
    raised_none qs (λ q. bytes_eq name q.name) c.args.bounds.now.items (none_named_so qs name c.in_default.field-0 belongs)
