use Rattle.std.proofs.Common.{◌∷◌, sym, ap, ◌∙◌, Some}
use Rattle.atomic_table.specs.Table.{rest}
use Rattle.qm_turn.proofs.turnstile.Turnstile.take.Goals as goal

pub exchange-requires : goal.exchange-requires
exchange-requires g c =
    let has = c.requires.has in (
      c.requires.here ∙ sym (ap (λ v. v.place) c.self.view_is),
      (Some has.0, has.1 ∙ ap (λ r. (0, Some has.0) ∷ r) (sym (ap rest has.1))),
    )
