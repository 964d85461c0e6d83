use Rattle.std.proofs.Common.{rules, sym, subst, ◌∙◌, ap, nat_cmp}
use Rattle.qm_model.specs.Common.{IsInOrder, fits, no_system}
use Rattle.qm_ready.specs.Rows.{Row, HasNumbersOnce}
use Rattle.qm_parts.specs.Tables.{Tables, with_tables}
use Rattle.qm_parts.proofs.Reach.{fitting_reach}
use Rattle.qm_parts.proofs.RowKeys.{gathered_once, filled}
use Rattle.qm_parts.proofs.rows.refill.Goals as goal

pub into_row-requires : goal.into_row-requires
into_row-requires c =
    let order = subst (λ (t : Tables). IsInOrder nat_cmp (λ e. e.number) t.entries) c.tables.view_is c.see_order.ensures.entries in
    subst HasNumbersOnce (sym (c.gather.ensures.keys no_system)) (gathered_once (λ e. fits (with_tables no_system c.args.tables.now) e c.args.queue.now) c.args.tables.now.entries order)

pub returns-clause-ready : goal.returns-clause-ready
returns-clause-ready c =
    let order = subst (λ (t : Tables). IsInOrder nat_cmp (λ e. e.number) t.entries) c.tables.view_is c.see_order.ensures.entries in
    filled c.args.tables.now c.args.queue.now c.into_row.result c.gather.new.gathering.keys order (c.gather.ensures.keys no_system)
    (c.into_row.ensures.schedule ∙ c.gather.ensures.schedule ∙ ap (λ (r : Row). r.schedule) c.gather-gathering.ensures ∙ c.of-schedule.ensures) c.into_row.ensures.each

pub gather-requires-clause-room : goal.gather-requires-clause-room
gather-requires-clause-room c s = let fewer = fitting_reach (with_tables s c.args.tables.now) c.args.queue.now c.args.tables.now.entries in search rules
