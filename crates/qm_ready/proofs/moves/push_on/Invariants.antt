use Rattle.std.proofs.Common.{◌-◌, ◌≡◌, ◌≤◌, length, insert, vec_capacity}
use Rattle.qm_ready.specs.Tiers.{laid}
use Rattle.qm_ready.specs.declared.moves.TheConstants.{TIER}
use Rattle.qm_ready.proofs.moves.push_on.Given as goal

abbrev pub invariant-loop-at : goal.invariant-loop-at
invariant-loop-at l = record {
  moved : insert (laid TIER l.heads l.keys.items) l.at l.carry ≡ insert (laid TIER l.heads l.fn.keys.items) l.fn.from l.fn.key;
  within : l.at ≤ l.to;
  len : length l.keys.items ≡ length l.fn.keys.items;
  capacity : vec_capacity l.keys ≡ vec_capacity l.fn.keys;
}

abbrev pub decreases-loop-at : goal.decreases-loop-at
decreases-loop-at l = l.to - l.at
