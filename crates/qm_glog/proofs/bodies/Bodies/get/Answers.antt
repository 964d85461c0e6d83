use Rattle.std.proofs.Common.{◌<◌, length, arith}
use Rattle.qm_glog.proofs.Cut.{length-cut, cut_at}
use Rattle.qm_glog.proofs.bodies.Bodies.get.Goals as goal

pub start-start-requires : goal.start-start-requires
start-start-requires c = omega (arith, length-cut 0 c.args.self.now.ends.items c.args.self.now.bytes.items)

pub end-end-requires : goal.end-end-requires
end-end-requires c = omega (arith, length-cut 0 c.args.self.now.ends.items c.args.self.now.bytes.items)

pub returns : goal.returns
returns c =
    let within : c.args.index < length c.args.self.now.ends.items = omega (arith, length-cut 0 c.args.self.now.ends.items c.args.self.now.bytes.items) in
    rw (c.start-start.ensures.start, c.end-end.ensures.end, c.deref.ensures.value) (cut_at 0 c.args.self.now.ends.items c.args.self.now.bytes.items c.args.index within)
