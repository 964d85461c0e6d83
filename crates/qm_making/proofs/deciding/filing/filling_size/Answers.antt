use Rattle.std.proofs.Common.{arith}
use Rattle.qm_making.proofs.Filling.{filling_length}
use Rattle.qm_making.proofs.deciding.filing.filling_size.Goals as goal

pub returns : goal.returns
returns c = omega (arith, filling_length c.args.lines)
