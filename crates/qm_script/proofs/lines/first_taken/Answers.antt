use Rattle.std.proofs.Common.{eqb-true, sym, ◌∙◌, length, option_copied}
use Rattle.qm_script.proofs.Taking.{line_skipped}
use Rattle.qm_script.proofs.lines.first_taken.Goals as goal

pub returns-then-is_empty-clause-line : goal.returns-then-is_empty-clause-line
returns-then-is_empty-clause-line c =
    line_skipped (option_copied c.args.nodes) c.args.number c.first_line-first.result.lines c.args.script.now c.first_line-first.result.text.now
    c.first_line-first.result.rest.now c.first_line-first.result.is_ended c.first_line-first.ensures.0 c.requires.some
    (eqb-true (length c.first_line-first.result.text.now) 0 (sym c.is_empty.ensures ∙ c.if-is_empty.true)) c.first_line-first.ensures.1
