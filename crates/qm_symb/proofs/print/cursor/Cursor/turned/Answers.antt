use Rattle.std.proofs.Common.{inl, inr, arith}
use Rattle.qm_symb.proofs.PlaceLemmas.{nothing_left, turns_over}
use Rattle.qm_symb.proofs.print.cursor.Cursor.turned.Goals as goal
use Rattle.qm_symb.proofs.print.cursor.Cursor.turned.Goals.{then-self-len-via-then-self-len, then-self-len-via-else-self-len+then-self-eq0, then-self-len-via-else-self-len+else-self-eq0+then-is_empty}

pub returns-then-self-len-clause-done : goal.returns-then-self-len-clause-done
returns-then-self-len-clause-done c past plain =
    elim c.then-self-len.branch [
      | then-self-len-via-then-self-len w ↦ absurd (omega (arith, w.if-self-len.true, c.len.ensures, past))
      | then-self-len-via-else-self-len+then-self-eq0 w ↦ nothing_left c.args.work.now c.args.self plain past (inl w.if-self-eq0.true)
      | then-self-len-via-else-self-len+else-self-eq0+then-is_empty w ↦ nothing_left c.args.work.now c.args.self plain past (inr (w.is_empty.ensures.0 w.if-is_empty.true))
    ]

pub returns-clause-same : goal.returns-clause-same
returns-clause-same c =
    turns_over c.args.work.now c.args.self.flag c.args.self.copies _ c.args.self.at (omega (arith, c.if-self-eq0.false)) (omega (arith, c.if-self-len.false, c.len.ensures))
