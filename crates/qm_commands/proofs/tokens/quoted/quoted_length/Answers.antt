use Rattle.std.proofs.Common.{◌∙◌, arith, get_or}
use Rattle.std.proofs.lemmas.List.{drop_more}
use Rattle.qm_commands.proofs.TokenFollowing.{within_quotes, second_quote}
use Rattle.qm_commands.proofs.tokens.quoted.quoted_length.Goals as goal
use Rattle.qm_commands.proofs.tokens.quoted.quoted_length.Goals.{then-not-behind_quote, else-not-behind_quote+then-is_quote}

pub loop-length-preserved : goal.loop-length-preserved
loop-length-preserved c =
    let text = c.args.text.now in
    let n = c.loop-length.length in
    let here = drop_more text n 0 c.loop-length-test.true in
    elim c.if-not-behind_quote.branch [
      | then-not-behind_quote w ↦ (omega (arith, c.loop-length-test.true), c.loop-length.invariant.1 ∙ within_quotes text n (get_or text n 0) c.loop-length.behind_quote _ here (cc) (cc))
      | else-not-behind_quote+then-is_quote w ↦ (omega (arith, c.loop-length-test.true), c.loop-length.invariant.1 ∙ second_quote text n (get_or text n 0) c.loop-length.behind_quote _ here (cc) (cc) (cc))
    ]
