use Rattle.std.proofs.Common.{false}
use Rattle.qm_node.proofs.runs.settle.Goals as goal

-- a checkpoint behind which the run doesn't go on is like its end
pub returns-else-goes_on-clause-settled : goal.returns-else-goes_on-clause-settled
returns-else-goes_on-clause-settled g c = λ steps. rw (c.in-Mark.is, c.if-goes_on.false) (c.forget.ensures.settled steps 0 false)
