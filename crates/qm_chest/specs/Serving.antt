-- What a call wants of the chest, and what it comes to.
use Rattle.std.specs.Prelude.{ℕ, ◌^◌, ◌<◌, Bool, false, ◌&&◌, if◌then◌else◌, IsTrue, List, [], ◌∷◌, length, slice_get, unwrap_or, Option, None, Some}
use Rattle.qm_history.specs.Common.{Meaning, input_of, why_of}
use Rattle.qm_history.specs.declared.call.Call.{Call}
use Rattle.qm_history.specs.declared.event.Event.{Event}
use Rattle.qm_history.specs.declared.turn.Turn.{Turn}
use Rattle.qm_chest.specs.At.{CanBeAskedFor, IsWorkOf}
use Rattle.qm_chest.specs.Work.{makes_step}
use Rattle.qm_chest.specs.Whole.{Asks, Leaves, ServesWhere, StandsEarly, is_leave}
use Rattle.qm_chest.specs.declared.chest.State.{State}
use Rattle.qm_chest.specs.declared.serving.Served.{Served}
use Rattle.qm_chest.specs.declared.wanted.Maker.{Maker}
use Rattle.qm_chest.specs.declared.wanted.Outcome.{Outcome}
use Rattle.qm_chest.specs.declared.wanted.Wanted.{Wanted}

-- who makes the turn of a call of a node, at a reading of its clock
abbrev pub maker_of : ℕ → ℕ → Call → Maker
maker_of node now asked = record { node = node; why = why_of asked; moment = now }

abbrev pub wanted_by : ℕ → ℕ → Call → Wanted
wanted_by node now asked = record { maker = maker_of node now asked; input = input_of asked; leaves = is_leave asked }

-- the turn of these events
abbrev pub turn_of : Maker → List Event → Turn
turn_of maker events = record { node = maker.node; why = maker.why; moment = maker.moment; events = events }

-- the same, if there are any
abbrev pub turn_made : Maker → List Event → Option Turn
turn_made maker [] = None
turn_made maker (e ∷ events) = Some (turn_of maker (e ∷ events))

-- what the call came to, with what the chest then works with
abbrev pub served_of : {D : Type 0} → State D → Outcome → Served D
served_of state outcome = record { work = state.work; first = outcome.first; second = outcome.second; answer = outcome.answer }

-- the call is a step of the manager that is up, of a node that is live
abbrev pub is_step_alone : {D : Type 0} → Wanted → State D → Bool
is_step_alone wanted state = unwrap_or (slice_get state.members.live.items wanted.maker.node) false && makes_step state.work wanted.input

-- how many events it can have at most
abbrev pub most_events : {D : Type 0} → Wanted → State D → ℕ
most_events wanted state = if is_step_alone wanted state then 1 else 2

-- the call can be served: what the chest works with fits together, and stands for some world of early epochs where the disks tell
pub record CanServe {D : Type 0} (m : Meaning D) (wanted : Wanted) (state : State D) : Type 0 where
  pub work : IsWorkOf m state.members.names.items state.work
  pub there : wanted.maker.node < length state.members.names.items
  pub can : CanBeAskedFor wanted.maker.node wanted.input
  pub epochs : state.members.greatest < 2 ^ 63
  pub stands : IsTrue m.tells → StandsEarly m state

-- what serving it comes to, whatever the disks tell and where they do
pub record Serving {D : Type 0} (m : Meaning D) (wanted : Wanted) (old new : State D) (outcome : Outcome) : Type 0 where
  pub leaves : Leaves m old.members old.work new.members (served_of new outcome)
  pub serves : ServesWhere m old.members old.work wanted.maker.node wanted.maker.moment (Asks wanted.input wanted.leaves) new.members
      (served_of new outcome)
