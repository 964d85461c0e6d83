use Rattle.std.proofs.Common.{arith, sym, ap, cond}
use Rattle.qm_symb.proofs.TextLemmas.{some_line_left, no_line_left}
use Rattle.qm_symb.proofs.batch.step.status_at_limit.Goals as goal

pub returns-then-here-len : goal.returns-then-here-len
returns-then-here-len c = ap (λ t. cond t 1 1036) (sym (some_line_left c.args.work.now.text c.args.here c.requires (omega (arith, c.if-here-len.true, c.len.ensures))))

pub returns-else-here-len : goal.returns-else-here-len
returns-else-here-len c = ap (λ t. cond t 1 1036) (sym (no_line_left c.args.work.now.text c.args.here c.requires (omega (arith, c.if-here-len.false, c.len.ensures))))
