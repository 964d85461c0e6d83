use Rattle.qm_kinds.proofs.MatchTable.{StarSoFar}
use Rattle.qm_kinds.proofs.wildcards.row_before_star.Given as goal

abbrev pub invariant-loop-k : goal.invariant-loop-k
invariant-loop-k l = StarSoFar l.last l.k l.row l.before l.any
