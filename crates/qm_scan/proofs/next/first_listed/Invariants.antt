use Rattle.std.proofs.Common.{◌≡◌, drop, find}
use Rattle.qm_tables.specs.Boxed.{contents}
use Rattle.qm_scan.specs.Listed.{is_entry_listed}
use Rattle.qm_scan.proofs.next.first_listed.Given as goal

-- the entry is among those that are left, if anywhere
abbrev pub invariant-loop-boxed : goal.invariant-loop-boxed
invariant-loop-boxed l = find (is_entry_listed l.query l.queue) (drop l.boxed-index (contents l.entries)) ≡ find (is_entry_listed l.query l.queue) (contents l.entries)
