use Rattle.std.proofs.Common.{◌≡◌, ◌≤◌, ◌-◌, length, None}
use Rattle.qm_time.specs.Months.{month_in_front, most_shared}
use Rattle.qm_time.proofs.month.month_in_front.Given as goal

-- none of the months so far stands there
abbrev pub invariant-loop-month : goal.invariant-loop-month
invariant-loop-month l = record {
  none : month_in_front (l.month - 1) l.text ≡ None;
  most_is : l.most ≡ most_shared (l.month - 1) l.text;
  few : l.most ≤ length l.text;
}
