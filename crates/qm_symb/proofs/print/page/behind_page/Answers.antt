use Rattle.std.proofs.Common.{length, drop, arith, ap, length-drop}
use Rattle.std.proofs.lemmas.List.{take_rest}
use Rattle.qm_symb.proofs.PageLemmas.{blank_at, next_row, last_row, page_is_full}
use Rattle.qm_symb.proofs.print.page.behind_page.Goals as goal

pub returns-then-text-eq-FORM_FEED-clause-page : goal.returns-then-text-eq-FORM_FEED-clause-page
returns-then-text-eq-FORM_FEED-clause-page c = (blank_at c.args.shape c.args.text.now c.requires.some c.if-text-eq-FORM_FEED.true).0

pub returns-then-line-clause-page : goal.returns-then-line-clause-page
returns-then-line-clause-page c =
    (last_row c.args.shape c.args.text.now c.loop-row.at c.loop-row.row c.first_line-line.result.shown c.first_line-line.result.next _ c.loop-row.invariant.front
    (take_rest c.args.text.now c.loop-row.at) c.first_line-line.result.is_last c.if-line.true (omega (arith, c.rows-row-end.ensures.value, c.loop-row-test.true)) c.first_line-line.ensures.line).0

pub loop-row-preserved : goal.loop-row-preserved
loop-row-preserved c = record {
  front = next_row c.args.shape c.args.text.now c.loop-row.at c.loop-row.row c.first_line-line.result.shown c.first_line-line.result.next _ c.loop-row.invariant.front
      (take_rest c.args.text.now c.loop-row.at) c.first_line-line.result.is_last c.if-line.false c.first_line-line.ensures.line;
  moves = λ h. omega (arith, c.first_line-line.ensures.some);
  inside = omega (arith, c.first_line-line.ensures.next, ap length (take_rest c.args.text.now c.loop-row.at), length-drop c.loop-row.at c.args.text.now, c.loop-row.invariant.inside);
}

pub returns-clause-page : goal.returns-clause-page
returns-clause-page c =
    page_is_full c.args.shape c.args.text.now (drop c.loop-row.at c.args.text.now) c.loop-row.row (omega (arith, c.rows-row-end.ensures.value, c.loop-row-test.false, c.loop-row.auto.row-end))
    (omega (arith, c.rows-row-end.ensures.some, c.loop-row-test.false)) c.loop-row.invariant.front
