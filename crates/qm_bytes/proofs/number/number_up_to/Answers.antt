use Rattle.std.proofs.Common.{arith}
use Rattle.qm_bytes.specs.Widths.{bytes_of}
use Rattle.qm_bytes.proofs.Numbers.{split_found}
use Rattle.qm_bytes.proofs.number.number_up_to.Goals as goal

pub returns-in-Some-clause-value : goal.returns-in-Some-clause-value
returns-in-Some-clause-value c =
    split_found (bytes_of c.args.width) c.args.limit c.in-Some.number c.args.bytes.now c.in-Some.rest.now c.in-Some.ensures (omega (arith, c.if-number-limit.true))
