use Rattle.std.proofs.Common.{List, is_some, sym, ap, subst}
use Rattle.qm_keyed.specs.Places.{StandsAt, BelongsAt}
use Rattle.qm_model.specs.Common.{Queue, name_cmp}
use Rattle.qm_tables.proofs.QueueNames.{name_of}
use Rattle.qm_parts.specs.Ready.{ready_key}
use Rattle.qm_parts.proofs.KeptRows.{is_named, none_named, row_of_named}
use Rattle.qm_parts.proofs.parts.Parts.row_named.Goals as goal

pub returns-in-Ok-clause-found : goal.returns-in-Ok-clause-found
returns-in-Ok-clause-found c =
    rw (← c.self.view_is)
    (is_named c.self.inside.tables.queues c.args.name.now c.in-Ok.place (subst (λ (qs : List Queue). StandsAt name_cmp name_of c.args.name.now qs c.in-Ok.place) c.queues.ensures.queues c.in-Ok.ensures))

pub returns-in-Ok-clause-jobs : goal.returns-in-Ok-clause-jobs
returns-in-Ok-clause-jobs c =
    rw (← c.self.view_is)
    (row_of_named c.self.inside.tables.queues c.args.name.now c.in-Ok.place (ready_key c.self.inside.tables) c.self.inside.rows.items c.index.result.now
    (subst (λ (qs : List Queue). StandsAt name_cmp name_of c.args.name.now qs c.in-Ok.place) c.queues.ensures.queues c.in-Ok.ensures) c.self.invariant.ready c.index.ensures)

pub returns-in-Err-clause-found : goal.returns-in-Err-clause-found
returns-in-Err-clause-found c =
    rw (← c.self.view_is)
    (sym (ap is_some
    (none_named c.self.inside.tables.queues c.args.name.now c.in-Err.field-0 (subst (λ (qs : List Queue). BelongsAt name_cmp name_of c.args.name.now qs c.in-Err.field-0) c.queues.ensures.queues c.in-Err.ensures))))
