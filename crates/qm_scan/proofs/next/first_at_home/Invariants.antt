use Rattle.std.proofs.Common.{◌≡◌, drop, find}
use Rattle.qm_tables.specs.Boxed.{contents}
use Rattle.qm_scan.specs.Listed.{is_listed_at_home}
use Rattle.qm_scan.proofs.next.first_at_home.Given as goal

-- the entry is among those that are left, if anywhere
abbrev pub invariant-loop-place : goal.invariant-loop-place
invariant-loop-place l = find (is_listed_at_home l.query l.queue) (drop l.place (contents l.entries)) ≡ find (is_listed_at_home l.query l.queue) (contents l.entries)
