-- The turns of a history, each with the world in which it is made.
use Rattle.std.specs.Prelude.{ℕ, ◌==◌, List, [], ◌∷◌, filter}
use Rattle.qm_history.specs.declared.turn.Turn.{Turn}
use Rattle.qm_history.specs.declared.world.World.{World}
use Rattle.qm_history.specs.Legal.{after_turn}

-- a turn, and the world before it
pub record Visit : Type 0 where
  pub before : World
  pub turn : Turn

-- the turns, one after the other
abbrev pub visits : World → List Turn → List Visit
visits w [] = []
visits w (t ∷ turns) = record { before = w; turn = t } ∷ visits (after_turn w t) turns

-- the turns of one node
abbrev pub visits_of : ℕ → World → List Turn → List Visit
visits_of node w turns = filter (λ (v : Visit). v.turn.node == node) (visits w turns)
