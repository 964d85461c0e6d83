use Rattle.std.proofs.Common.{◌+◌, length, arith}
use Rattle.qm_commands.proofs.TokenOrder.{in_order, moved}
use Rattle.qm_commands.proofs.tokens.laws.tokens_are_in_order.Goals as goal

pub returns : goal.returns
returns c = λ text tokens are. moved (0 + 0) (0 + length text) 0 (length text) tokens (omega arith) (omega arith) (in_order 0 0 text tokens (omega arith) are)
