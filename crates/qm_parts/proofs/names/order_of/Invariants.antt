use Rattle.std.proofs.Common.{◌≡◌, ◌≤◌, ◌-◌, drop}
use Rattle.qm_model.specs.Find.{name_cmp}
use Rattle.qm_parts.proofs.names.order_of.Given as goal

-- up to the place both are the same
abbrev pub invariant-loop-place : goal.invariant-loop-place
invariant-loop-place l = record {
  same : name_cmp l.text l.other ≡ name_cmp (drop l.place l.text) (drop l.place l.other);
  within : l.place ≤ l.both;
}

abbrev pub decreases-loop-place : goal.decreases-loop-place
decreases-loop-place l = l.both - l.place
