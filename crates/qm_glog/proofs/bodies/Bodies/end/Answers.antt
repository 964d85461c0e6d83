use Rattle.std.proofs.Common.{◌≡◌, ◌∙◌, ◌<◌, length, get_or, vec_len, arith}
use Rattle.std.proofs.lemmas.List.{get_or_default}
use Rattle.qm_glog.proofs.Cut.{ends_within}
use Rattle.qm_glog.proofs.bodies.Bodies.end.Goals as goal

pub returns-clause-within : goal.returns-clause-within
returns-clause-within c =
    let within : c.args.index < length c.args.self.now.ends.items = omega arith in
    let is : c.index.result.now ≡ get_or c.args.self.now.ends.items c.args.index 0 = c.index.ensures ∙ get_or_default c.args.self.now.ends.items c.args.index c.index.result.now 0 within in
    omega (arith, is, ends_within 0 c.args.self.now.ends.items (vec_len c.args.self.now.bytes) c.args.index c.args.self.now.are_ends within)
