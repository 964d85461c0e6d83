use Rattle.std.proofs.Common.{◌≡◌, ◌∙◌, ◌-◌, ◌<◌, length, get_or, vec_len, arith}
use Rattle.std.proofs.lemmas.List.{get_or_default}
use Rattle.qm_glog.proofs.Cut.{ends_after_start, start_is}
use Rattle.qm_glog.proofs.bodies.Bodies.start.Goals as goal

pub returns-clause-in_order : goal.returns-clause-in_order
returns-clause-in_order c =
    let some : 0 < c.args.index = omega arith in
    let within : c.args.index < length c.args.self.now.ends.items = omega arith in
    let before : c.args.index - 1 < length c.args.self.now.ends.items = omega arith in
    let is : c.index.result.now ≡ get_or c.args.self.now.ends.items (c.args.index - 1) 0 = c.index.ensures ∙ get_or_default c.args.self.now.ends.items (c.args.index - 1) c.index.result.now 0 before in
    omega (arith, is, start_is 0 c.args.self.now.ends.items c.args.index some, ends_after_start 0 c.args.self.now.ends.items (vec_len c.args.self.now.bytes) c.args.index c.args.self.now.are_ends within)
