use Rattle.std.proofs.Common.{◌∙◌, ◌≤◌, ◌++◌, ◌∷◌, [], ap, vec_len, drop, List, ℕ, arith, length-drop}
use Rattle.qm_glog.specs.Records.{size_of}
use Rattle.qm_glog.proofs.Texts.{size_of-push}
use Rattle.qm_glog.specs.Bodies.{list_of}
use Rattle.qm_glog.proofs.Cut.{AreEnds-on, list_on}
use Rattle.qm_glog.proofs.bodies.Bodies.read.Goals as goal

pub invariant_of-self-2 : goal.invariant_of-self-2
invariant_of-self-2 g c =
    let long : vec_len c.args.self.now.bytes ≤ vec_len c.read_onto.new.bytes = omega (arith, c.in_ok-read_onto.ensures.len) in
    record {
      are_ends = AreEnds-on c.args.self.now.ends.items c.push_reserved.new.self.items (vec_len c.args.self.now.bytes) c.len.result c.args.self.now.are_ends
          c.push_reserved.ensures.items
          (vec_len c.read_onto.new.bytes) long c.len.ensures;
    }

pub returns-clause-added : goal.returns-clause-added
returns-clause-added g c = λ told.
    list_on c.args.self.now.ends.items c.push_reserved.new.self.items (vec_len c.args.self.now.bytes) c.len.result c.args.self.now.are_ends
    c.push_reserved.ensures.items
    c.args.self.now.bytes.items c.read_onto.new.bytes.items (omega arith) c.read_onto.ensures.before (omega (arith, c.len.ensures))
    ∙ ap (λ (l : List ℕ). list_of c.args.self.now ++ l ∷ []) (c.in_ok-read_onto.ensures.read told)

pub returns-clause-size : goal.returns-clause-size
returns-clause-size g c =
    let old : List ℕ = c.args.self.now.bytes.items in
    let new : List ℕ = c.read_onto.new.bytes.items in
    let last : ℕ = vec_len c.args.self.now.bytes in
    let grown = list_on c.args.self.now.ends.items c.push_reserved.new.self.items (vec_len c.args.self.now.bytes) c.len.result c.args.self.now.are_ends
    c.push_reserved.ensures.items
    c.args.self.now.bytes.items c.read_onto.new.bytes.items (omega arith) c.read_onto.ensures.before (omega (arith, c.len.ensures)) in
    let size = ap size_of grown ∙ size_of-push (list_of c.args.self.now) (drop (vec_len c.args.self.now.bytes) c.read_onto.new.bytes.items) in
    omega (arith, size, length-drop (vec_len c.args.self.now.bytes) c.read_onto.new.bytes.items, c.in_ok-read_onto.ensures.len)
