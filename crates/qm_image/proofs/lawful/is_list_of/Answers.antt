use Rattle.std.proofs.Common.{◌≡◌, ◌∙◌, ◌<◌, Bool, true, false, length, sym, arith}
use Rattle.std.proofs.lemmas.Option.{slice_get_within}
use Rattle.qm_image.proofs.Listed.{passed_over, taken, must_stand}
use Rattle.qm_image.proofs.lawful.is_list_of.Goals as goal
use Rattle.qm_image.proofs.lawful.is_list_of.Goals.{then-is_among+else-not-is_at, else-is_among}

not_both : (b : Bool) → b ≡ true → b ≡ false → ⊥
not_both b holds fails = cc

pub returns-then-not-is_at : goal.returns-then-not-is_at
returns-then-not-is_at c =
    let within : c.loop-node.node-index < length c.args.nodes.now = omega arith in (
      λ h. cc,
      λ same. absurd (not_both c.is_at.result
          (c.is_at.ensures.1 (must_stand c.args.names.now c.args.nodes.now c.loop-node.node-index c.node-item.result within c.node-item.is c.loop-node.found c.loop-node.invariant.few
          (sym c.is_among.ensures ∙ c.if-is_among.true) c.loop-node.invariant.same same))
          c.if-not-is_at.true),
    )

pub loop-node-preserved : goal.loop-node-preserved
loop-node-preserved c =
    let within : c.loop-node.node-index < length c.args.nodes.now = omega arith in
    elim c.if-is_among.branch [
      | then-is_among+else-not-is_at w ↦
          let there = w.is_at.ensures.0 w.if-not-is_at.false in
          rw w.found-is record {
            few = omega (arith, slice_get_within c.args.names.now c.loop-node.found c.node-item.result.name there);
            same = taken c.args.names.now c.args.nodes.now c.loop-node.node-index c.node-item.result within c.node-item.is c.loop-node.found (sym c.is_among.ensures ∙ w.if-is_among.true) there c.loop-node.invariant.same;
          }
      | else-is_among w ↦
          rw w.found-is record {
            few = c.loop-node.invariant.few;
            same = passed_over c.args.names.now c.args.nodes.now c.loop-node.node-index c.node-item.result within c.node-item.is c.loop-node.found (sym c.is_among.ensures ∙ w.if-is_among.false) c.loop-node.invariant.same;
          }
    ]
