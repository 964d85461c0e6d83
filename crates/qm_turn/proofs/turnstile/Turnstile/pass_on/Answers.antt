use Rattle.std.proofs.Common.{◌∷◌, ◌++◌, [], sym, ap, ◌∙◌, subst, arith, Some}
use Rattle.atomic_table.specs.Table.{rest}
use Rattle.qm_turn.specs.History.{notes}
use Rattle.qm_turn.proofs.Passing.{passes_on}
use Rattle.qm_turn.proofs.turnstile.Turnstile.pass_on.Goals as goal

pub fetch_add-served-requires : goal.fetch_add-served-requires
fetch_add-served-requires g c =
    let e = c.exchange-was.ensures in
    let was = ap (λ m. m.0) e.3 in
    let gone = ap (λ m. m.1) e.3 ∙ ap (λ r. (0, Some c.args.value) ∷ rest r) c.requires.empty in (
      e.0 ∙ c.requires.here ∙ sym (ap (λ v. v.place) c.self.view_is),
      omega (arith, c.self.invariant),
      passes_on g.V.Told.stands c.self.inside.table.shared.key c.self.inside.table.shared.table_id.slots c.exchange-was.new.seat.id c.requires.served.0 c.exchange-was.new.seat.me c.args.value c.requires.stands.0 g.J.Noted.made (ap (λ v. v.phase) was ∙ c.requires.served.1) gone c.requires.stands.1 (subst (λ v. g.V.Told.stands c.args.value (notes v.seen ++ c.requires.stands.0 ∷ [])) (sym was) c.requires.stands.2),
    )
