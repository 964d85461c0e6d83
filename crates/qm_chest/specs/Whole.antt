-- What a whole call leaves, by its events.
use Rattle.std.specs.Prelude.{◌≡◌, ◌≢◌, ℕ, Bool, true, false, ◌+◌, ◌^◌, ◌<◌, ◌≤◌, List, [], ◌∷◌, length, option_to_list, Option, None, Some, IsTrue}
use Rattle.qm_history.specs.Common.{Meaning, Input, Refusal, plain, input_of, is_journal, tells_disk_fault, takes_over, is_down, IsSound}
use Rattle.qm_kinds.specs.declared.reply.Act.TheVariants as act
use Rattle.qm_acting.specs.Leaving.{LeavesDisk}
use Rattle.qm_history.specs.declared.call.Answer.{Answer}
use Rattle.qm_history.specs.declared.call.Answer.TheVariants as answer
use Rattle.qm_history.specs.declared.call.Call.{Call}
use Rattle.qm_history.specs.declared.call.Call.TheVariants as call
use Rattle.qm_history.specs.declared.event.Event.{Event}
use Rattle.qm_history.specs.declared.event.Event.TheVariants as event
use Rattle.qm_history.specs.declared.turn.Turn.{Turn}
use Rattle.qm_history.specs.declared.world.World.{World}
use Rattle.qm_history.specs.Chest.{Adds, TellsRoom, hides_events}
use Rattle.qm_history.specs.Serving.{behind}
use Rattle.qm_chest.specs.Duties.{ShowsNodeDuties}
use Rattle.qm_chest.specs.At.{IsWorkOf, IsStateAt, IsWithout, state_disk}
use Rattle.qm_chest.specs.Work.{work_disk}
use Rattle.qm_chest.specs.Turns.{made_turn}
use Rattle.qm_chest.specs.declared.members.Members.{Members}
use Rattle.qm_chest.specs.declared.chest.State.{State}
use Rattle.qm_chest.specs.declared.work.Work.{Work}
use Rattle.qm_chest.specs.declared.serving.Served.{Served}

-- the turn of these events, if there are any
abbrev pub turn_left : ℕ → ℕ → Call → List Event → Option Turn
turn_left node now asked [] = None
turn_left node now asked (e ∷ events) = Some (made_turn node now asked (e ∷ events))

-- the node goes for good
abbrev pub is_leave : Call → Bool
is_leave call.Leave = true
is_leave (call.Line line asked) = false
is_leave (call.Fetch known) = false
is_leave (call.Report run told) = false

-- the event of a node that stops, or leaves
abbrev pub goes_by : ℕ → Bool → Event
goes_by node true = event.Left node
goes_by node false = event.Stopped node

-- what comes of a node's going alone, behind which the chest works with this
abbrev pub goes_alone : {D : Type 0} → Work D → ℕ → ℕ → Bool → List ℕ → Served D
goes_alone work node now leaves name = record {
  work = work;
  first = Some (goes_by node leaves);
  second = None;
  answer = answer.Done None now (plain (act.NodeStopped name));
}

-- what comes of a call that is refused before a system is asked: it has the moment of the node's clock
abbrev pub refused_call : {D : Type 0} → Work D → ℕ → ℕ → Input → Refusal → Served D
refused_call work node now what refusal = record {
  work = work;
  first = Some (event.Refused node now what refusal);
  second = None;
  answer = answer.Refused None refusal;
}

-- up to two events
abbrev pub both : Option Event → Option Event → List Event
both None second = []
both (Some first) second = first ∷ option_to_list second

-- A call leaves the turn of these events with this answer, and what the chest works with stands for the world behind it, whose greatest
-- epoch is at most one greater.
pub record IsServedAs {D : Type 0} (m : Meaning D) (cap : ℕ) (w : World) (node now : ℕ) (asked : Call)
    (old : D) (new : State D) (events : List Event) (told : Answer) : Type 0 where
  pub adds : Adds m w old (state_disk new) asked (turn_left node now asked events) told
  pub room : TellsRoom m w (m.seen old) asked (turn_left node now asked events)
  pub at : IsStateAt m cap (behind w (turn_left node now asked events)) new
  pub rises : (behind w (turn_left node now asked events)).greatest ≤ w.greatest + 1

-- the same in each world for which all that the chest has stands, of a call for which this is so
abbrev pub ServesWhere : {D : Type 0} → Meaning D → Members → Work D → ℕ → ℕ → (World → Call → Type 0) → Members → Served D → Type 0
ServesWhere m members work node now Where after served =
    IsTrue m.tells → (cap : ℕ) (w : World) (asked : Call) → IsStateAt m cap w (record { members = members; work = work }) → w.greatest + 1 < 2 ^ 62 → Where w asked
    → IsServedAs m cap w node now asked (work_disk work) (record { members = after; work = served.work }) (both served.first served.second) served.answer

-- ---- which call it is

-- The call asks for this, and is the node's last one or not. The world is sound, so that what is read of a record in doubt is the
-- same cluster's.
abbrev pub Asks : Input → Bool → World → Call → Type 0
Asks what leaves w asked = (input_of asked ≡ what) × (is_leave asked ≡ leaves) × IsSound w

-- the same of a call for which the node isn't down, and before which no takeover comes
abbrev pub AsksAlone : ℕ → Input → Bool → World → Call → Type 0
AsksAlone node what leaves w asked = (input_of asked ≡ what) × (is_leave asked ≡ leaves) × (is_down w node what ≡ false) × (takes_over w what ≡ false)

-- the same of one that takes over, which is no node's last one
abbrev pub AsksToTake : ℕ → Input → World → Call → Type 0
AsksToTake node what w asked = (input_of asked ≡ what) × (is_down w node what ≡ false) × (takes_over w what ≡ true) × IsSound w

-- ---- whatever the disks tell

-- A call without events is told that memory was short. Another one is told that a disk failed where its last event tells so,
-- unless its answer hides what they tell.
abbrev pub IsToldBy : List Event → Answer → Type 0
IsToldBy [] told = told ≡ answer.NoMemory None
IsToldBy (e ∷ events) told = (told ≢ answer.HistoryFull) × (hides_events told ≡ false → is_journal told ≡ tells_disk_fault (e ∷ events))

-- The nodes are called as before, at most one epoch more was tried, with an event, a fault is told just where one was counted, and then no
-- manager is up; the queue file that isn't live stays.
pub record Leaves {D : Type 0} (m : Meaning D) (old : Members) (was : Work D) (new : Members) (served : Served D) : Type 0 where
  pub work : IsWorkOf m new.names.items served.work
  pub names : new.names.items ≡ old.names.items
  pub rises : new.greatest ≤ old.greatest + length (option_to_list served.first)
  pub leaves : LeavesDisk m (work_disk was) (work_disk served.work) (is_journal served.answer ≡ true)
  pub down : is_journal served.answer ≡ true → IsWithout served.work
  pub told : IsToldBy (both served.first served.second) served.answer
  pub duties : ShowsNodeDuties served.answer

-- Where the disks tell, it stands for a world, whose greatest epoch is so early that one more can be tried.
pub record StandsEarly {D : Type 0} (m : Meaning D) (state : State D) : Type 0 where
  pub cap : ℕ
  pub w : World
  pub at : IsStateAt m cap w state
  pub early : w.greatest + 1 < 2 ^ 62
