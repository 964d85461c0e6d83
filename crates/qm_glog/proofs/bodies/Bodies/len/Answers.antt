use Rattle.std.proofs.Common.{arith}
use Rattle.qm_glog.proofs.Cut.{length-cut}
use Rattle.qm_glog.proofs.bodies.Bodies.len.Goals as goal

pub returns : goal.returns
returns c = omega (arith, length-cut 0 c.args.self.now.ends.items c.args.self.now.bytes.items)
