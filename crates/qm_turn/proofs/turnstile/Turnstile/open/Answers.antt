use Rattle.std.proofs.Common.{◌∷◌, [], sym, subst}
use Rattle.atomic_table.specs.Table.{opening}
use Rattle.qm_turn.specs.Rule.{Kept, first_view}
use Rattle.qm_turn.proofs.Splitting.{opens}
use Rattle.qm_turn.proofs.turnstile.Turnstile.open.Goals as goal

pub new-requires : goal.new-requires
new-requires g c =
    subst (λ xs. Kept g.V.Told.stands c.args.passes (opening (0 ∷ 0 ∷ []) xs first_view)) (sym c.in-Ok-slot_with.ensures) (opens g.V.Told.stands c.args.passes c.args.value c.requires.some c.requires.few c.requires.untouched)
