use Rattle.qm_kinds.proofs.MatchTable.{ByteSoFar}
use Rattle.qm_kinds.proofs.wildcards.row_before_byte.Given as goal

abbrev pub invariant-loop-k : goal.invariant-loop-k
invariant-loop-k l = ByteSoFar l.byte l.k l.text l.row l.before
