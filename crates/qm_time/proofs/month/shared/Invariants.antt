use Rattle.std.proofs.Common.{◌≡◌, ◌≤◌, ◌+◌, length, drop, nat_eq}
use Rattle.std.specs.List.{common_prefix_len}
use Rattle.qm_time.proofs.month.shared.Given as goal

-- so many bytes are shared, and in front of the rest as many as are left
abbrev pub invariant-loop-i : goal.invariant-loop-i
invariant-loop-i l = record {
  in_text : l.i ≤ length l.text;
  so_far : common_prefix_len nat_eq l.word l.text ≡ l.i + common_prefix_len nat_eq (drop l.i l.word) (drop l.i l.text);
}
