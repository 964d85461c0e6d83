-- How keys go through tiers.
use Rattle.std.specs.Prelude.{◌≡◌, ℕ, length, insert, Vec, vec_capacity}
use Rattle.std.specs.declared.alloc.Global.{Global}
use Rattle.qm_match.specs.declared.order.Key.{Key}
use Rattle.qm_ready.specs.Tiers.{IsTiered, laid}
use Rattle.qm_ready.specs.declared.moves.TheConstants.{TIER}

-- Keys in tiers, each with a head, before a move and behind it: one key came to a place, and those between there and another
-- place moved by one, so that the key of that place went. There are as many keys and tiers as before, and room for as many.
pub record MovesKeys (keys : Vec Key Global) (heads : Vec ℕ Global) (moved_keys : Vec Key Global) (moved_heads : Vec ℕ Global) (from : ℕ) (key : Key) (to : ℕ) (gone : Key) : Type 0 where
  pub moved : insert (laid TIER moved_heads.items moved_keys.items) to gone ≡ insert (laid TIER heads.items keys.items) from key
  pub tiered : IsTiered TIER moved_heads.items moved_keys.items
  pub tiers : length moved_heads.items ≡ length heads.items
  pub len : length moved_keys.items ≡ length keys.items
  pub capacity : vec_capacity moved_keys ≡ vec_capacity keys
  pub heads_capacity : vec_capacity moved_heads ≡ vec_capacity heads
