use Rattle.std.proofs.Common.{◌∙◌, ◌+◌, ◌-◌, ap, sym, arith, get_or, length, drop, take_all}
use Rattle.std.proofs.lemmas.List.{drop_more, length-drop}
use Rattle.qm_commands.specs.Tokens.{piece_of}
use Rattle.qm_commands.specs.declared.tokens.byte.Sort.{Sort}
use Rattle.qm_commands.proofs.TokenFollowing.{taken}
use Rattle.qm_commands.proofs.tokens.token.next_token.Goals as goal

pub returns-in-Takes : goal.returns-in-Takes
returns-in-Takes c =
    let text = c.args.text.now in
    let at = c.loop-at.at in
    let rest = drop (at + 1) text in
    let all = take_all (length text - (at + 1)) rest (omega (arith, length-drop (at + 1) text)) in (
      omega (arith, c.loop-at.invariant.0, c.in-Takes.ensures.within.0),
      omega (arith, c.in-Takes.ensures.within.1),
      c.loop-at.invariant.2 ∙ taken text at (get_or text at 0) c.in-Takes.kind c.in-Takes.length (drop_more text at 0 c.loop-at-test.true)
          (ap (λ (sort : Sort). piece_of sort rest) (sym c.sort_of.ensures) ∙ ap (piece_of c.sort_of.result) (sym all) ∙ sym c.in-Takes.ensures.piece)
          c.in-Takes.ensures.within.0,
    )
