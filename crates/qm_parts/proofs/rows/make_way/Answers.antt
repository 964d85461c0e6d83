use Rattle.std.proofs.Common.{◌<◌, ℕ, List, length, get_or, remove, ap, arith, subst, sym}
use Rattle.std.proofs.lemmas.List.Edits.{length-insert, length-remove}
use Rattle.qm_keyed.specs.Places.{StandsAt, BelongsAt}
use Rattle.qm_model.specs.Find.{name_cmp}
use Rattle.qm_tables.proofs.QueueNames.{name_of}
use Rattle.qm_ready.specs.Rows.{Row}
use Rattle.qm_parts.proofs.KeptRows.{none_named}
use Rattle.qm_parts.proofs.RowPlaces.{no_row, met_in, met_over}
use Rattle.qm_parts.proofs.rows.make_way.Goals as goal

pub place_row-requires-clause-from : goal.place_row-requires-clause-from
place_row-requires-clause-from c = c.requires.row (none_named c.args.queues.now c.args.name.now c.in-Err.place c.in-Err.ensures)

pub returns-in-Err-clause-met : goal.returns-in-Err-clause-met
returns-in-Err-clause-met c q needs name by_name absent met =
    let none = none_named c.args.queues.now c.args.name.now c.in-Err.place c.in-Err.ensures in
    met_in needs c.args.queues.now c.args.rows.now.items met q c.in-Err.place c.place_row.new.rows.items
    (subst (λ (n : List ℕ). BelongsAt name_cmp name_of n c.args.queues.now c.in-Err.place) (sym name) c.in-Err.ensures) (c.requires.row none) (absent none) c.place_row.ensures

pub returns-in_default-clause-met : goal.returns-in_default-clause-met
returns-in_default-clause-met c q needs name by_name absent met =
    met_over needs c.args.queues.now c.args.rows.now.items met q c.in_default.field-0
    (subst (λ (n : List ℕ). StandsAt name_cmp name_of n c.args.queues.now c.in_default.field-0) (sym name) c.in_default.ensures) by_name

pub returns-in-Err-clause-count : goal.returns-in-Err-clause-count
returns-in-Err-clause-count c =
    let rows : List Row = c.args.rows.now.items in
    let n = length c.args.queues.now in
    let inside : n < length rows = c.requires.row (none_named c.args.queues.now c.args.name.now c.in-Err.place c.in-Err.ensures) in
    let left = length-remove rows n inside in
    omega (
      arith,
      ap (λ (xs : List Row). length xs) (c.place_row.ensures no_row),
      length-insert (remove rows n) c.in-Err.place (get_or rows n no_row) (omega (arith, c.in-Err.ensures.within, left, inside)),
      left,
    )
