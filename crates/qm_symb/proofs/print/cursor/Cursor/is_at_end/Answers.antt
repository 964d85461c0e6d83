use Rattle.std.proofs.Common.{⊎_elim, arith, sym, ◌∙◌}
use Rattle.std.proofs.lemmas.Bool.{cases_lt, leb-true, le-leb, not-true, not-false}
use Rattle.qm_symb.proofs.PlaceLemmas.{flag_first, more_left, some_left}
use Rattle.qm_symb.proofs.print.cursor.Cursor.is_at_end.Goals as goal

pub returns-then-not-here : goal.returns-then-not-here
returns-then-not-here c = (
  λ past. sym c.turned-here.ensures.same ∙ c.turned-here.ensures.done (omega (arith, leb-true c.len.result c.turned-here.result.at past, c.len.ensures)) (not-true c.turned-here.result.flag c.if-not-here.true),
  λ none. ⊎_elim
      (λ before. absurd (more_left c.args.work.now c.turned-here.result (omega (arith, c.requires.has_rows)) (omega (arith, c.requires.has_columns)) (omega (arith, before, c.len.ensures)) (c.turned-here.ensures.same ∙ none)))
      (λ past. le-leb c.len.result c.turned-here.result.at past) (cases_lt c.turned-here.result.at c.len.result),
)

pub returns-else-not-here : goal.returns-else-not-here
returns-else-not-here c =
    let flagged = not-false c.turned-here.result.flag c.if-not-here.false in (
      λ plain. let clear = not-true c.turned-here.result.flag plain in absurd (cc),
      λ none. absurd (some_left _ _ _ (flag_first c.args.work.now c.turned-here.result flagged) (c.turned-here.ensures.same ∙ none)),
    )
