use Rattle.std.proofs.Common.{◌≡◌, ◌++◌, not, take, drop, filter}
use Rattle.qm_tables.specs.Boxed.{contents}
use Rattle.qm_tables.specs.SpoolCounts.{CountsOf}
use Rattle.qm_ending.specs.Leaving.{goes}
use Rattle.qm_ending.proofs.leaving.leave_files.Given as goal

-- of the entries so far, those that stay are counted, and all that are left
abbrev pub invariant-loop-boxed : goal.invariant-loop-boxed
invariant-loop-boxed l = record {
  counts : CountsOf (filter (λ e. not (goes l.leaving e)) (take l.boxed-index (contents l.entries)) ++ drop l.boxed-index (contents l.entries)) l.spool.counts;
  files : l.spool ≡ record l.fn.spool { counts = l.spool.counts };
}
