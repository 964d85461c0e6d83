use Rattle.std.proofs.Common.{ℕ, ◌∷◌, sym, subst}
use Rattle.qm_kinds.specs.MatchRows.{IsRowOf}
use Rattle.qm_kinds.proofs.MatchTable.{star_is_row}
use Rattle.qm_kinds.proofs.wildcards.row_before.Goals as goal

pub returns-then-byte-eq42 : goal.returns-then-byte-eq42
returns-then-byte-eq42 c = λ rest known.
    subst (λ (b : ℕ). IsRowOf (b ∷ rest) c.args.text.now c.row_before_star.result) (sym c.if-byte-eq42.true)
    (star_is_row rest c.args.text.now c.args.row.now c.row_before_star.result c.row_before_star.ensures known)
