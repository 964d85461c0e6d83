use Rattle.std.proofs.Common.{arith}
use Rattle.qm_time.specs.Months.{shared}
use Rattle.qm_time.proofs.MonthLemmas.{shared-on, shared-differ, shared-end}
use Rattle.qm_time.proofs.month.shared.Goals as goal
use Rattle.qm_time.proofs.month.shared.Goals.{then-i-text-via-then-i-text, then-i-text-via-else-i-text+then-text-i}

pub loop-i-preserved : goal.loop-i-preserved
loop-i-preserved c =
    let more = shared-on c.args.word.now c.args.text.now c.loop-i.i c.loop-i-test.true (omega (arith, c.loop-i.invariant.in_text, c.if-i-text.false)) c.if-text-i.false in
    record { in_text = omega (arith, c.loop-i.invariant.in_text, c.if-i-text.false); so_far = omega (arith, c.loop-i.invariant.so_far, more) }

pub returns-then-i-text-clause-value : goal.returns-then-i-text-clause-value
unfolding shared
returns-then-i-text-clause-value c =
    elim c.then-i-text.branch [
      | then-i-text-via-then-i-text w ↦
          omega (arith, c.loop-i.invariant.so_far, shared-end c.args.word.now c.args.text.now c.loop-i.i w.if-i-text.true)
      | then-i-text-via-else-i-text+then-text-i w ↦
          omega (arith, c.loop-i.invariant.so_far, shared-differ c.args.word.now c.args.text.now c.loop-i.i c.loop-i-test.true (omega (arith, c.loop-i.invariant.in_text, w.if-i-text.false)) w.if-text-i.true)
    ]
