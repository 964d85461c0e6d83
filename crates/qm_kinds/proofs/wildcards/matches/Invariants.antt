use Rattle.std.proofs.Common.{drop}
use Rattle.qm_kinds.specs.MatchRows.{IsRowOf}
use Rattle.qm_kinds.proofs.wildcards.matches.Given as goal

-- the row is that of the end of the pattern from here on
abbrev pub invariant-loop-i : goal.invariant-loop-i
invariant-loop-i l = IsRowOf (drop l.i l.pattern) l.text l.row
