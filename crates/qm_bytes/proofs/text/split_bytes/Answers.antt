use Rattle.std.proofs.Common.{arith, ◌∙◌, refl}
use Rattle.qm_bytes.proofs.Texts.{bytes_there, bytes_short}
use Rattle.qm_bytes.proofs.text.split_bytes.Goals as goal

pub returns-then-bytes-count-clause-value : goal.returns-then-bytes-count-clause-value
returns-then-bytes-count-clause-value c =
    bytes_short c.args.count c.args.bytes.now (λ i. omega (arith, c.type_inv.bytes i)) c.if-bytes-count.true

pub returns-clause-value : goal.returns-clause-value
returns-clause-value c =
    bytes_there c.args.count c.args.bytes.now (λ i. omega (arith, c.type_inv.bytes i)) c.if-bytes-count.false
    ∙ rw (c.split_at.ensures.front, c.split_at.ensures.back) refl
