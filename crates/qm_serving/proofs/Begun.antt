-- What the nodes of a site that was opened can rest on.
use Rattle.std.proofs.Common.{◌≡◌, ℕ, ◌<◌, true, IsTrue, List, [], ◌∷◌, length, sym, subst}
use Rattle.qm_chest.specs.At.{chest_names}
use Rattle.qm_chest.specs.Manager.{StandsAt, meaning_of}
use Rattle.qm_chest.specs.declared.chest.Chest.{Chest}
use Rattle.qm_cluster.specs.Sharing.{MayBegin}
use Rattle.qm_history.specs.Common.{Meaning, IsSound, is_live}
use Rattle.qm_history.specs.declared.world.World.{World}

-- each world for which it stands is sound, and each node is live there
pub begins_sound : {D : Type 0} (m : Meaning D) (began : List (Chest D)) (chest : Chest D) → began ≡ chest ∷ [] → (count : ℕ) → count ≡ length (chest_names chest)
    → ((w : World) → StandsAt m w chest → (node : ℕ) → node < length (chest_names chest) → IsSound w × (is_live w node ≡ true))
    → IsTrue m.tells → (w : World) → MayBegin (meaning_of m) began w → (node : ℕ) → node < count → IsSound w × (is_live w node ≡ true)
begins_sound {D} m began chest on count same each sure w may node low =
    each w (subst (λ (l : List (Chest D)). MayBegin (meaning_of m) l w) on may).0 node (subst (λ (n : ℕ). node < n) same low)
