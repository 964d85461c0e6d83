-- Histories: turns, one after the other.
-- OpenVMS System Manager's Manual, Managing the Queue Manager and Queue Database, on one queue manager for a cluster.
use Rattle.std.specs.Prelude.{◌⊎◌, List, [], ◌∷◌}
use Rattle.qm_history.specs.declared.call.Call.{Call}
use Rattle.qm_history.specs.declared.turn.Turn.{Turn}
use Rattle.qm_history.specs.declared.world.World.{World}
use Rattle.qm_history.specs.Step.{after_events}
use Rattle.qm_history.specs.Turn.{IsTurnOf, IsCutShort}

-- the world behind a turn
abbrev pub after_turn : World → Turn → World
after_turn w t = after_events w t.events

-- the world behind turns, the first one first
abbrev pub after_turns : World → List Turn → World
after_turns w [] = w
after_turns w (t ∷ turns) = after_turns (after_turn w t) turns

-- some call was served in this turn, whole or as far as memory lasted
abbrev pub IsLegalTurn : World → Turn → Type 0
IsLegalTurn w t = (asked : Call) × (IsTurnOf w asked t ⊎ IsCutShort w asked t)

-- each turn is legal behind those before it
abbrev pub IsLegal : World → List Turn → Type 0
IsLegal w [] = Unit {0}
IsLegal w (t ∷ turns) = IsLegalTurn w t × IsLegal (after_turn w t) turns
