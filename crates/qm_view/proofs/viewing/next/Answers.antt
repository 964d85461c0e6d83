use Rattle.std.proofs.Common.{◌≡◌, IfOk, IsSome, OnErr, subst}
use Rattle.qm_kinds.specs.declared.system.System.{System}
use Rattle.qm_model.specs.Rows.{next_row, single_rows}
use Rattle.qm_image.specs.Image.{system_of}
use Rattle.qm_view.proofs.viewing.next.Goals as goal

pub returns-clause-row : goal.returns-clause-row
returns-clause-row c =
    subst (λ (s : System). IfOk c.next_row.result (λ one. one ≡ next_row c.args.query.now.after (single_rows s c.args.query.now c.args.query.now.listing))) c.parts.ensures.tables
    (c.next_row.ensures.row (system_of c.args.image.now))

pub returns-clause-no_memory : goal.returns-clause-no_memory
returns-clause-no_memory c =
    subst (λ (s : System). OnErr c.next_row.result (IsSome (next_row c.args.query.now.after (single_rows s c.args.query.now c.args.query.now.listing)))) c.parts.ensures.tables
    (c.next_row.ensures.no_memory (system_of c.args.image.now))
