-- The turn that a call leaves.
use Rattle.std.specs.Prelude.{ℕ, List}
use Rattle.qm_history.specs.declared.call.Call.{Call}
use Rattle.qm_history.specs.declared.event.Event.{Event}
use Rattle.qm_history.specs.declared.turn.Turn.{Turn}
use Rattle.qm_history.specs.Calls.{why_of}

-- the turn of a call of a node, at a reading of its clock, by its events
abbrev pub made_turn : ℕ → ℕ → Call → List Event → Turn
made_turn node reading asked events = record { node = node; why = why_of asked; moment = reading; events = events }
