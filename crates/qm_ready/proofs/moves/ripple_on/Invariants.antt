use Rattle.std.proofs.Common.{◌-◌, ◌≡◌, ◌≤◌, ◌*◌, length, insert, vec_capacity}
use Rattle.qm_ready.specs.Tiers.{IsTiered, laid}
use Rattle.qm_ready.specs.declared.moves.TheConstants.{TIER}
use Rattle.qm_ready.proofs.moves.ripple_on.Given as goal

abbrev pub invariant-loop-tier : goal.invariant-loop-tier
invariant-loop-tier l = record {
  moved : insert (laid TIER l.heads.items l.keys.items) (l.tier * TIER) l.carry ≡ insert (laid TIER l.fn.heads.items l.fn.keys.items) (l.from * TIER) l.fn.key;
  tiered : IsTiered TIER l.heads.items l.keys.items;
  within : (l.tier ≤ l.to) × (l.fn.from ≤ l.tier);
  tiers : length l.heads.items ≡ length l.fn.heads.items;
  len : length l.keys.items ≡ length l.fn.keys.items;
  capacity : vec_capacity l.keys ≡ vec_capacity l.fn.keys;
  heads_capacity : vec_capacity l.heads ≡ vec_capacity l.fn.heads;
}

abbrev pub decreases-loop-tier : goal.decreases-loop-tier
decreases-loop-tier l = l.to - l.tier
