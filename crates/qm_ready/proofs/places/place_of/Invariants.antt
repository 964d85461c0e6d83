use Rattle.std.proofs.Common.{◌≡◌, ◌≤◌, ◌-◌, true, false, length}
use Rattle.std.specs.List.{AllWithin}
use Rattle.qm_match.specs.Keys.{comes_before}
use Rattle.qm_ready.proofs.places.place_of.Given as goal

abbrev pub invariant-loop-low : goal.invariant-loop-low
invariant-loop-low l = record {
  order : l.low ≤ l.high;
  within : l.high ≤ length l.keys.list;
  before : AllWithin (λ k. comes_before l.schedule k l.key ≡ true) l.keys.list 0 l.low;
  behind : AllWithin (λ k. comes_before l.schedule k l.key ≡ false) l.keys.list l.high (length l.keys.list);
}

abbrev pub decreases-loop-low : goal.decreases-loop-low
decreases-loop-low l = l.high - l.low
