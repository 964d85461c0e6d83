-- What is kept of the nodes, in a world.
use Rattle.std.specs.Prelude.{◌≡◌, ℕ, Bool, false, slice_get, unwrap_or}
use Rattle.qm_history.specs.declared.world.World.{World}
use Rattle.qm_history.specs.Common.{cluster, system_in}
use Rattle.qm_chest.specs.declared.members.Members.{Members}

-- their names, which are live, the epochs that they hold, and the greatest one
pub record AreMembersOf (w : World) (members : Members) : Type 0 where
  pub names : cluster (system_in w) ≡ members.names.items
  pub live : members.live.items ≡ w.live
  pub held : members.held.items ≡ w.held
  pub greatest : members.greatest ≡ w.greatest

-- the node of this place serves its lines
abbrev pub is_live_in : Members → ℕ → Bool
is_live_in members node = unwrap_or (slice_get members.live.items node) false

-- but for which nodes are live all is as it was
abbrev pub OnlyLiveChanges : Members → Members → Type 0
OnlyLiveChanges old new = (new.names.items ≡ old.names.items) × (new.held.items ≡ old.held.items) × (new.greatest ≡ old.greatest)
