use Rattle.std.proofs.Common.{◌≡◌, ◌∙◌, ap, ◌≤◌, ◌++◌, ◌∷◌, [], List, ℕ, length, take, drop, vec_len, rules, arith, take_at, drop_at}
use Rattle.qm_glog.specs.Bodies.{list_of}
use Rattle.qm_glog.proofs.Cut.{AreEnds-on, list_on}
use Rattle.qm_glog.proofs.bodies.Bodies.push_reserved.Goals as goal

pub invariant_of-self : goal.invariant_of-self
invariant_of-self c =
    let long : vec_len c.args.self.now.bytes ≤ vec_len c.extend_from_slice.new.self = search rules in
    record {
      are_ends = AreEnds-on c.args.self.now.ends.items c.push_reserved.new.self.items (vec_len c.args.self.now.bytes) c.len.result c.args.self.now.are_ends c.push_reserved.ensures.items
          (vec_len c.extend_from_slice.new.self) long c.len.ensures;
    }

pub returns : goal.returns
returns c =
    let joined : c.extend_from_slice.new.self.items ≡ c.args.self.now.bytes.items ++ c.args.body.now = search rules in
    let long : length c.args.self.now.bytes.items ≡ vec_len c.args.self.now.bytes = omega arith in
    let before : take (vec_len c.args.self.now.bytes) c.extend_from_slice.new.self.items ≡ c.args.self.now.bytes.items =
    ap (λ (l : List ℕ). take (vec_len c.args.self.now.bytes) l) joined ∙ take_at c.args.self.now.bytes.items c.args.body.now (vec_len c.args.self.now.bytes) long in
    let behind : drop (vec_len c.args.self.now.bytes) c.extend_from_slice.new.self.items ≡ c.args.body.now =
    ap (λ (l : List ℕ). drop (vec_len c.args.self.now.bytes) l) joined ∙ drop_at c.args.self.now.bytes.items c.args.body.now (vec_len c.args.self.now.bytes) long in
    list_on c.args.self.now.ends.items c.push_reserved.new.self.items (vec_len c.args.self.now.bytes) c.len.result c.args.self.now.are_ends c.push_reserved.ensures.items
    c.args.self.now.bytes.items c.extend_from_slice.new.self.items (omega arith) before (omega (arith, c.len.ensures))
    ∙ ap (λ (l : List ℕ). list_of c.args.self.now ++ l ∷ []) behind
