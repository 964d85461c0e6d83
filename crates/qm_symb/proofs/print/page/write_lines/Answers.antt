use Rattle.std.proofs.Common.{◌≡◌, ◌+◌, ◌++◌, length, take, drop, arith, sym, ap, ◌∙◌, length-drop, flat_map}
use Rattle.std.proofs.lemmas.List.{take_rest}
use Rattle.qm_model.specs.Pages.{line_block, rows}
use Rattle.qm_symb.specs.TextParts.{section}
use Rattle.qm_symb.specs.PageLines.{printed_lines, first_page, IsFirstPage}
use Rattle.qm_symb.proofs.PageLemmas.{blank_at, next_row, next_printed, last_row, page_is_full, one_more_written, nothing_written, full_page_lines}
use Rattle.qm_symb.proofs.print.page.write_lines.Goals as goal

pub returns-then-text-eq-FORM_FEED-clause-page : goal.returns-then-text-eq-FORM_FEED-clause-page
returns-then-text-eq-FORM_FEED-clause-page c = (blank_at c.args.shape c.args.text.now c.requires.some c.if-text-eq-FORM_FEED.true).0

pub returns-then-text-eq-FORM_FEED-clause-lines : goal.returns-then-text-eq-FORM_FEED-clause-lines
returns-then-text-eq-FORM_FEED-clause-lines c =
    nothing_written c.args.shape.left c.args.block.now.items _ (blank_at c.args.shape c.args.text.now c.requires.some c.if-text-eq-FORM_FEED.true).1

-- the last line of a section
abbrev LastLine : goal.Then-line → Type 0
LastLine c =
    IsFirstPage c.args.shape c.args.text.now (drop (c.loop-row.at + c.first_line-line.result.next) c.args.text.now)
    × (first_page c.args.shape c.args.text.now ≡ take (c.loop-row.row + 1) (printed_lines c.args.shape (section c.args.text.now)))

last : (c : goal.Then-line) → LastLine c
last c =
    last_row c.args.shape c.args.text.now c.loop-row.at c.loop-row.row c.first_line-line.result.shown c.first_line-line.result.next _ c.loop-row.invariant.front
    (take_rest c.args.text.now c.loop-row.at) c.first_line-line.result.is_last c.if-line.true (omega (arith, c.rows-row-end.ensures.value, c.loop-row-test.true)) c.first_line-line.ensures.line

-- all rows are full
full : (c : goal.After-loop-row) → rows c.args.shape ≡ c.loop-row.row
full c = omega (arith, c.rows-row-end.ensures.value, c.loop-row-test.false, c.loop-row.auto.row-end)

pub returns-then-line-clause-lines : goal.returns-then-line-clause-lines
returns-then-line-clause-lines c =
    one_more_written c.args.shape.left c.args.block.now.items c.loop-row.block.items c.write_line.new.block.items _ _ _ c.loop-row.invariant.written c.in_ok-write_line.ensures
    (next_printed c.args.shape c.args.text.now c.loop-row.at c.loop-row.row c.first_line-line.result.shown c.first_line-line.result.next _ c.loop-row.invariant.front
    (take_rest c.args.text.now c.loop-row.at) c.first_line-line.result.is_last c.first_line-line.ensures.line)
    ∙ ap (λ l. c.args.block.now.items ++ flat_map (line_block c.args.shape.left) l) (sym (last c).1)

pub returns-then-line-clause-page : goal.returns-then-line-clause-page
returns-then-line-clause-page c = (last c).0

pub loop-row-preserved : goal.loop-row-preserved
loop-row-preserved c = record {
  front = next_row c.args.shape c.args.text.now c.loop-row.at c.loop-row.row c.first_line-line.result.shown c.first_line-line.result.next _ c.loop-row.invariant.front
      (take_rest c.args.text.now c.loop-row.at) c.first_line-line.result.is_last c.if-line.false c.first_line-line.ensures.line;
  moves = λ h. omega (arith, c.first_line-line.ensures.some);
  inside = omega (arith, c.first_line-line.ensures.next, ap length (take_rest c.args.text.now c.loop-row.at), length-drop c.loop-row.at c.args.text.now, c.loop-row.invariant.inside);
  written = one_more_written c.args.shape.left c.args.block.now.items c.loop-row.block.items c.write_line.new.block.items _ _ _ c.loop-row.invariant.written c.in_ok-write_line.ensures
      (next_printed c.args.shape c.args.text.now c.loop-row.at c.loop-row.row c.first_line-line.result.shown c.first_line-line.result.next _ c.loop-row.invariant.front
      (take_rest c.args.text.now c.loop-row.at) c.first_line-line.result.is_last c.first_line-line.ensures.line);
}

pub returns-clause-page : goal.returns-clause-page
returns-clause-page c =
    page_is_full c.args.shape c.args.text.now (drop c.loop-row.at c.args.text.now) c.loop-row.row (full c) (omega (arith, c.rows-row-end.ensures.some, c.loop-row-test.false)) c.loop-row.invariant.front

pub returns-clause-lines : goal.returns-clause-lines
returns-clause-lines c =
    c.loop-row.invariant.written ∙ ap (λ l. c.args.block.now.items ++ flat_map (line_block c.args.shape.left) l) (full_page_lines c.args.shape c.args.text.now c.loop-row.row (full c))
