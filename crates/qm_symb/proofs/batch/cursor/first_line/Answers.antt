use Rattle.std.proofs.Common.{sym, ◌∙◌, arith}
use Rattle.qm_symb.proofs.TextLemmas.{front_at_feed, rest_at_feed, feed_inside, front_without_feed, rest_without_feed}
use Rattle.qm_symb.proofs.batch.cursor.first_line.Goals as goal

pub overflow_add-result : goal.overflow_add-result
overflow_add-result c = omega (arith, feed_inside c.args.text.now c.in-Some.place (sym c.line_end.ensures ∙ c.in-Some.is))

pub returns-in-Some-clause-line : goal.returns-in-Some-clause-line
returns-in-Some-clause-line c = front_at_feed c.args.text.now c.in-Some.place (sym c.line_end.ensures ∙ c.in-Some.is)

pub returns-in-Some-clause-rest : goal.returns-in-Some-clause-rest
returns-in-Some-clause-rest c = rest_at_feed c.args.text.now c.in-Some.place (sym c.line_end.ensures ∙ c.in-Some.is)

pub returns-in-Some-clause-bytes : goal.returns-in-Some-clause-bytes
returns-in-Some-clause-bytes c = omega (arith, feed_inside c.args.text.now c.in-Some.place (sym c.line_end.ensures ∙ c.in-Some.is))

pub returns-in-Some-clause-inside : goal.returns-in-Some-clause-inside
returns-in-Some-clause-inside c = omega (arith, feed_inside c.args.text.now c.in-Some.place (sym c.line_end.ensures ∙ c.in-Some.is))

pub returns-in-None-clause-line : goal.returns-in-None-clause-line
returns-in-None-clause-line c = front_without_feed c.args.text.now (sym c.line_end.ensures ∙ c.in-None.is)

pub returns-in-None-clause-rest : goal.returns-in-None-clause-rest
returns-in-None-clause-rest c = rest_without_feed c.args.text.now (sym c.line_end.ensures ∙ c.in-None.is)
