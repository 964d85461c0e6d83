use Rattle.std.proofs.Common.{◌∙◌, arith, sym}
use Rattle.qm_model.specs.Kept.{round_of}
use Rattle.qm_node.specs.Rows.{all_bare}
use Rattle.qm_node.proofs.Fetched.{round_passed, round_pushed}
use Rattle.qm_node.proofs.runs.fill_round.Goals as goal
use Rattle.qm_node.proofs.runs.fill_round.Goals.{then-may_step, else-may_step}

pub loop-row-preserved : goal.loop-row-preserved
loop-row-preserved g c = elim c.if-may_step.branch [
  | then-may_step w ↦ rw w.round-is (
    rw w.push_reserved.ensures.items
        (round_pushed c.args.rows.now c.loop-row.row-index c.row-item.result c.loop-row.round.items (round_of (all_bare c.args.rows.now)) c.loop-row-test.true c.row-item.is (sym c.may_step.ensures ∙ w.if-may_step.true) c.loop-row.invariant.0),
    omega (arith, w.push_reserved.ensures.len, c.loop-row.invariant.1),
    omega (arith, w.push_reserved.ensures.capacity, c.loop-row.invariant.2),
  )
  | else-may_step w ↦ rw w.round-is (
    round_passed c.args.rows.now c.loop-row.row-index c.row-item.result c.loop-row.round.items (round_of (all_bare c.args.rows.now)) c.loop-row-test.true c.row-item.is (sym c.may_step.ensures ∙ w.if-may_step.false) c.loop-row.invariant.0,
    omega (arith, c.loop-row.invariant.1),
    omega (arith, c.loop-row.invariant.2),
  )
]
