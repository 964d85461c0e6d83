use Rattle.std.proofs.Common.{arith}
use Rattle.qm_bytes.proofs.Names.{name_found, none_there}
use Rattle.qm_bytes.proofs.name.take_name.Goals as goal

pub returns-in-Ok-clause-spelled : goal.returns-in-Ok-clause-spelled
returns-in-Ok-clause-spelled c =
    let found =
    name_found c.args.bytes.now c.split_at.result.1.now c.args.at _ _ c.split_at.ensures.back (omega arith) c.in-Ok.ensures in
    rw c.as_bytes.ensures.value found.0

pub returns-in-Ok-clause-within : goal.returns-in-Ok-clause-within
returns-in-Ok-clause-within c =
    let found =
    name_found c.args.bytes.now c.split_at.result.1.now c.args.at _ _ c.split_at.ensures.back (omega arith) c.in-Ok.ensures in
    rw c.as_bytes.ensures.value found.1

pub returns-in-Err-clause-none : goal.returns-in-Err-clause-none
returns-in-Err-clause-none c =
    λ name rest. none_there c.args.bytes.now c.split_at.result.1.now c.args.at _ c.split_at.ensures.back c.in-Err.ensures name rest
