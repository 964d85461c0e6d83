use Rattle.std.proofs.Common.{rules, arith}
use Rattle.qm_bytes.proofs.Numbers.{eight_split}
use Rattle.qm_bytes.proofs.number.split_eight.Goals as goal

pub returns : goal.returns
returns c =
    eight_split c.args.bytes.now c.in_ok-front.front.now c.in_ok-front.rest.now c.from_le_bytes.result c.in_ok-front.ensures.cases.0 c.in_ok-front.ensures.cases.1
    (search rules) (λ i. omega (arith, c.type_inv.bytes i)) c.from_le_bytes.ensures (search rules)
