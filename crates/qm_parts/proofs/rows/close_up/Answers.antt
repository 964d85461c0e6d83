use Rattle.std.proofs.Common.{◌∷◌, [], List, length, get_or, remove, ap, arith, length-append}
use Rattle.std.proofs.lemmas.List.Edits.{length-remove}
use Rattle.qm_ready.specs.Rows.{Row}
use Rattle.qm_parts.proofs.RowPlaces.{no_row, met_out, met_none}
use Rattle.qm_parts.proofs.rows.close_up.Goals as goal

pub put_last-requires : goal.put_last-requires
put_last-requires c = omega (arith, c.in-Ok.ensures.within, c.requires.rows)

pub returns-in-Ok-clause-met : goal.returns-in-Ok-clause-met
returns-in-Ok-clause-met c needs met = met_out needs c.args.queues.now c.args.rows.now.items met c.args.name.now c.in-Ok.place c.put_last.new.rows.items c.in-Ok.ensures c.requires.rows c.put_last.ensures

pub returns-in_default-clause-met : goal.returns-in_default-clause-met
returns-in_default-clause-met c needs met = met_none needs c.args.queues.now c.args.rows.now.items met c.args.name.now c.in_default.field-0 c.in_default.ensures

pub returns-in-Ok-clause-count : goal.returns-in-Ok-clause-count
returns-in-Ok-clause-count c =
    let rows : List Row = c.args.rows.now.items in
    omega (
      arith,
      ap (λ (xs : List Row). length xs) (c.put_last.ensures no_row),
      length-append (remove rows c.in-Ok.place) (get_or rows c.in-Ok.place no_row ∷ []),
      length-remove rows c.in-Ok.place (omega (arith, c.in-Ok.ensures.within, c.requires.rows)),
    )
