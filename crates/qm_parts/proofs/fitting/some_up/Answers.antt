use Rattle.std.proofs.Common.{◌∙◌, ◌<◌, ◌&&◌, Bool, List, length, arith, sym, bytes_eq}
use Rattle.qm_kinds.specs.declared.system.Node.{Node}
use Rattle.qm_parts.proofs.Searches.{any_here, none_more, none_of_all}
use Rattle.qm_parts.proofs.fitting.some_up.Goals as goal

pub returns-then-is_up_as : goal.returns-then-is_up_as
returns-then-is_up_as c =
    let all : List Node = c.args.nodes.now in
    let p : Node → Bool = (λ (n : Node). bytes_eq n.name c.args.name.now && n.up) in
    let within : c.loop-node.node-index < length all = omega arith in
    any_here p all c.loop-node.node-index c.node-item.result within c.node-item.is (sym c.is_up_as.ensures ∙ c.if-is_up_as.true)

pub loop-node-preserved : goal.loop-node-preserved
loop-node-preserved c =
    let all : List Node = c.args.nodes.now in
    let p : Node → Bool = (λ (n : Node). bytes_eq n.name c.args.name.now && n.up) in
    let within : c.loop-node.node-index < length all = omega arith in
    none_more p all c.loop-node.node-index c.node-item.result within c.node-item.is c.loop-node.invariant (sym c.is_up_as.ensures ∙ c.if-is_up_as.false)

pub returns : goal.returns
returns c = none_of_all (λ (n : Node). bytes_eq n.name c.args.name.now && n.up) c.loop-node.node-index c.args.nodes.now c.loop-node.invariant (omega (arith, c.loop-node-test.false))
