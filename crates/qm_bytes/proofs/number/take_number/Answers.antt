use Rattle.std.proofs.Common.{arith, refl}
use Rattle.qm_bytes.specs.Widths.{bytes_of}
use Rattle.qm_bytes.proofs.Numbers.{found_at, none_at}
use Rattle.qm_bytes.proofs.number.take_number.Goals as goal

pub returns-in-Ok-clause-there : goal.returns-in-Ok-clause-there
returns-in-Ok-clause-there c =
    let at =
    found_at c.args.bytes.now c.split_at.result.1.now c.args.at (bytes_of c.args.width) c.in-Ok.number c.in-Ok.field-0-1.now c.split_at.ensures.back (omega arith) c.in-Ok.ensures.value in
    (λ h. at.0, λ h. refl)

pub returns-in-Ok-clause-spelled : goal.returns-in-Ok-clause-spelled
returns-in-Ok-clause-spelled c =
    let at =
    found_at c.args.bytes.now c.split_at.result.1.now c.args.at (bytes_of c.args.width) c.in-Ok.number c.in-Ok.field-0-1.now c.split_at.ensures.back (omega arith) c.in-Ok.ensures.value in
    rw c.bytes.ensures at.1

pub returns-in-Err-clause-there : goal.returns-in-Err-clause-there
returns-in-Err-clause-there c = (
  λ h. absurd cc,
  λ h. absurd (none_at c.args.bytes.now c.split_at.result.1.now c.args.at (bytes_of c.args.width) _ (λ i. omega (arith, c.type_inv.bytes i)) c.split_at.ensures.back c.in-Err.ensures.value h),
)
