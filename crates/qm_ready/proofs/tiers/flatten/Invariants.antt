use Rattle.std.proofs.Common.{◌≡◌, length, vec_capacity}
use Rattle.std.specs.List.{AllWithin}
use Rattle.qm_ready.proofs.tiers.flatten.Given as goal

abbrev pub invariant-loop-tier : goal.invariant-loop-tier
invariant-loop-tier l = record {
  flat : AllWithin (λ h. h ≡ 0) l.heads.items 0 l.tier;
  len : length l.heads.items ≡ length l.fn.heads.items;
  capacity : vec_capacity l.heads ≡ vec_capacity l.fn.heads;
}
