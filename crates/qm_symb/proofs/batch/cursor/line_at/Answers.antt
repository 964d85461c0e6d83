use Rattle.std.proofs.Common.{◌-◌, ◌<◌, length, take, drop, sym, ◌∙◌, arith}
use Rattle.std.proofs.lemmas.Bool.{eqb-false}
use Rattle.std.proofs.lemmas.List.{take_rest}
use Rattle.qm_symb.proofs.TextLemmas.{line_is_at}
use Rattle.qm_symb.proofs.batch.cursor.line_at.Goals as goal

pub returns : goal.returns
returns c =
    let text = c.args.text.now in
    let rest = take (length text - c.args.at.byte) (drop c.args.at.byte text) in
    let nonempty = eqb-false (length rest) 0 (sym c.is_empty.ensures ∙ c.if-is_empty.false) in
    let some : 0 < length rest = omega (arith, nonempty) in
    line_is_at text c.args.at c.requires.in_text rest c.first_line-first.result.bytes c.first_line-first.result.next (take_rest text c.args.at.byte) some
    c.first_line-first.ensures.line c.first_line-first.ensures.rest c.first_line-first.ensures.inside (c.first_line-first.ensures.moves some)
