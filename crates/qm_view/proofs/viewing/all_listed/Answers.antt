use Rattle.std.proofs.Common.{◌≡◌, IfOk, subst}
use Rattle.qm_kinds.specs.declared.system.System.{System}
use Rattle.qm_model.specs.Rows.{all_rows}
use Rattle.qm_image.specs.Image.{system_of}
use Rattle.qm_view.proofs.viewing.all_listed.Goals as goal

pub returns : goal.returns
returns c =
    subst (λ (s : System). IfOk c.all_rows.result (λ rows. rows ≡ all_rows s c.args.query.now c.args.query.now.listing)) c.parts.ensures.tables
    (c.all_rows.ensures (system_of c.args.image.now))
