use Rattle.std.proofs.Common.{◌≤◌, ◌<◌, ◌-◌, length}
use Rattle.std.specs.List.{AllWithin}
use Rattle.qm_tables.specs.Boxed.{contents}
use Rattle.qm_tables.proofs.entries.places.searched.Given as goal

-- the entries in front have lesser numbers, and those behind greater ones
abbrev pub invariant-loop-span : goal.invariant-loop-span
invariant-loop-span l = record {
  order : l.span.low ≤ l.span.high;
  within : l.span.high ≤ length (contents l.boxes);
  before : AllWithin (λ e. e.number < l.number) (contents l.boxes) 0 l.span.low;
  behind : AllWithin (λ e. l.number < e.number) (contents l.boxes) l.span.high (length (contents l.boxes));
}

abbrev pub decreases-loop-span : goal.decreases-loop-span
decreases-loop-span l = l.span.high - l.span.low
