use Rattle.std.proofs.Common.{◌≡◌, drop, find}
use Rattle.qm_tables.specs.Boxed.{contents}
use Rattle.qm_rules.specs.Naming.{names}
use Rattle.qm_rules.proofs.naming.first_naming.Given as goal

-- the entry is among those that are left, if anywhere
abbrev pub invariant-loop-boxed : goal.invariant-loop-boxed
invariant-loop-boxed l = find (names l.named) (drop l.boxed-index (contents l.entries)) ≡ find (names l.named) (contents l.entries)
