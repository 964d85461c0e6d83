-- The lists of nodes of a takeover, and when its record may be in doubt.
use Rattle.std.specs.Prelude.{◌≡◌, ℕ, Bool, not, ◌&&◌, IsSome, IsNone}
use Rattle.qm_history.specs.Common.{Request, Node, System, NamesNodes}
use Rattle.qm_kinds.specs.declared.request.Request.TheVariants as request
use Rattle.qm_history.specs.declared.world.World.{World}
use Rattle.qm_world.specs.declared.nodes.Which.{Which}
use Rattle.qm_world.specs.declared.nodes.Which.TheVariants.{Lost, Live}

-- the node is one of those
abbrev pub is_one : Which → Bool → Node → Bool
is_one Lost = λ live n. n.up && not live
is_one Live = λ live n. live

-- A record may be in doubt, whatever it says: a takeover's where its epoch was recorded and its lists are right, and no manager
-- is up and no other record in doubt; any other one beside a manager.
abbrev pub MayBeInDoubt : World → System → ℕ → Request → Type 0
MayBeInDoubt w s node (request.Took epoch gone up may) =
    IsNone w.manager × IsNone w.doubt × (epoch ≡ w.greatest) × NamesNodes w s node gone up may
MayBeInDoubt w s node asked = IsSome w.manager
