-- Calls that a chest served, one behind another, leave the queue file that isn't live as it is.
use Rattle.std.proofs.Common.{◌≡◌, inl, inr, IsTrue, List, [], ◌∷◌, sym, subst}
use Rattle.qm_acting.specs.Spare.{KeepsSpare}
use Rattle.qm_acting.proofs.Spare.{keeps_on, keeps_same}
use Rattle.qm_chest.specs.At.{chest_disk}
use Rattle.qm_chest.specs.Manager.{meaning_of}
use Rattle.qm_chest.specs.declared.chest.Chest.{Chest}
use Rattle.qm_history.specs.Common.{Meaning, after_turn}
use Rattle.qm_history.specs.declared.turn.Turn.{Turn}
use Rattle.qm_history.specs.declared.world.World.{World}
use Rattle.qm_history.specs.Serving.{AreMade, LeavesNone}

module _ {D : Type 0} (m : Meaning D) (tells : IsTrue m.tells) where
  stays : (old new : Chest D) → new ≡ old → KeepsSpare m (chest_disk old) (chest_disk new)
  stays old new same = subst (λ (chest : Chest D). KeepsSpare m (chest_disk old) (chest_disk chest)) (sym same) (keeps_same m (chest_disk old))

  pub made_spare : (v : World) (old new : Chest D) (turns : List Turn) → AreMade (meaning_of m) v old turns new → KeepsSpare m (chest_disk old) (chest_disk new)
  made_spare v old new [] made = stays old new made
  made_spare v old new (t ∷ turns) (asked, told, next, may, does, rest) =
      keeps_on m (chest_disk old) (chest_disk next) (chest_disk new) (does.spare tells) (made_spare (after_turn v t) next new turns rest)

  none_spare : (v : World) (old new : Chest D) → LeavesNone (meaning_of m) v old new → KeepsSpare m (chest_disk old) (chest_disk new)
  none_spare v old new (inl same) = stays old new same
  none_spare v old new (inr (asked, told, does)) = does.spare tells

  pub stopped_spare : (v u : World) (old next new : Chest D) (turns : List Turn) → AreMade (meaning_of m) v old turns next → LeavesNone (meaning_of m) u next new
      → KeepsSpare m (chest_disk old) (chest_disk new)
  stopped_spare v u old next new turns made last =
      keeps_on m (chest_disk old) (chest_disk next) (chest_disk new) (made_spare v old next turns made) (none_spare u next new last)
