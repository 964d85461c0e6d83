-- One step of a call: what it leaves, and what is answered.
use Rattle.std.specs.Prelude.{◌≡◌, ◌≤◌, ℕ, Bool, true, false, ◌&&◌, ◌||◌, if◌then◌else◌, List, [], ◌∷◌, length, unwrap_or, Option, None, Some, IsTrue, Result}
use Rattle.qm_history.specs.Common.{Meaning, Input, Query, Row, Refusal, Request, System, GREATEST_CAP, acting, are_numbers_spent, cluster, event_answer, moment_of, is_disk_fault, is_journal, after_event, is_live}
use Rattle.qm_kinds.specs.declared.input.Input.TheVariants as input
use Rattle.qm_kinds.specs.declared.refusal.Refusal.TheVariants as refused
use Rattle.qm_kinds.specs.declared.request.Request.TheVariants as request
use Rattle.qm_model.specs.Rows.{ManagerRole, view}
use Rattle.qm_store.specs.Database.{disk_of as closed_disk}
use Rattle.qm_store.specs.declared.closed.Closed.{Closed}
use Rattle.qm_acting.specs.Asking.{CanBeAsked}
use Rattle.qm_acting.specs.Leaving.{LeavesDisk}
use Rattle.qm_acting.specs.Standing.{standing_of, disk_of}
use Rattle.qm_acting.specs.declared.files.Files.TheVariants as site_files
use Rattle.qm_acting.specs.declared.manager.Manager.{Manager}
use Rattle.qm_acting.specs.declared.replies.Replies.{Replies}
use Rattle.qm_history.specs.declared.call.Answer.{Answer}
use Rattle.qm_history.specs.declared.call.Answer.TheVariants as answer
use Rattle.qm_history.specs.declared.call.Call.{Call}
use Rattle.qm_history.specs.declared.call.Takeover.{Takeover}
use Rattle.qm_history.specs.declared.event.Event.{Event}
use Rattle.qm_history.specs.declared.event.Event.TheVariants as event
use Rattle.qm_history.specs.declared.turn.Why.{Why}
use Rattle.qm_history.specs.declared.world.World.{World}
use Rattle.qm_history.specs.Room.{own_request}
use Rattle.qm_history.specs.Turn.{Beside, IsAsked, IsOwn}
use Rattle.qm_chest.specs.At.{IsWithout, IsWorkOf}
use Rattle.qm_chest.specs.Work.{work_disk, IsReadyWork, IsWorkAt, IsUp}
use Rattle.qm_chest.specs.Duties.{ShowsNodeDuties}
use Rattle.qm_chest.specs.Parts.{Part}
use Rattle.qm_chest.specs.Members.{AreMembersOf}
use Rattle.qm_chest.specs.declared.answering.Step.{Step}
use Rattle.qm_chest.specs.declared.asking.Came.{Came}
use Rattle.qm_chest.specs.declared.members.Members.{Members}
use Rattle.qm_chest.specs.declared.work.Work.{Work}
use Rattle.qm_chest.specs.declared.work.Work.TheVariants.{Up, Down}
use Rattle.qm_chest.specs.declared.place.Place.{Place}
use Rattle.qm_chest.specs.declared.serving.Served.{Served}

-- the request is one to the manager that is up, and doesn't tell of a takeover
abbrev pub IsToManager : Request → Type 0
IsToManager (request.Took epoch gone up may) = ⊥
IsToManager _ = Unit {0}

-- a record was written, or may be there
abbrev pub is_recorded : Option Event → Bool
is_recorded (Some (event.Done node moment asked reply)) = true
is_recorded (Some (event.Doubt node moment asked)) = true
is_recorded _ = false

-- a record has no room
abbrev pub is_full : Option Event → Bool
is_full (Some (event.Full node need cap)) = true
is_full _ = false

-- a node goes by what came of the record of its loss: it is there or in doubt, or where the node leaves it has no room
abbrev pub goes_then : Bool → Option Event → Bool
goes_then leaves o = is_recorded o || leaves && is_full o

-- An event of a call that asked for this: it is a part of it, and leads what the chest works with to the world behind it; and the answer is what the
-- event says, at its moment or where it has none at that at which the turn acted before.
pub record IsStep {D : Type 0} (m : Meaning D) (cap : ℕ) (w : World) (reading acted : ℕ) (asked : Input) (took : Option Takeover)
    (old : D) (came : Came D) (e : Event) : Type 0 where
  pub part : Part m None w reading asked (is_journal came.answer) (e ∷ []) old (work_disk came.work)
  pub work : IsWorkAt m cap (after_event w e) came.work
  pub told : (because : Why) → came.answer ≡ event_answer w took because (unwrap_or (moment_of e) acted) e

-- memory was short, and nothing has changed
pub record IsShort {D : Type 0} (m : Meaning D) (cap : ℕ) (w : World) (took : Option Takeover) (old : D) (came : Came D) : Type 0 where
  pub same : work_disk came.work ≡ old
  pub work : IsWorkAt m cap w came.work
  pub told : came.answer ≡ answer.NoMemory took

-- what a request comes to that is asked of a manager
abbrev pub ComesTo : {D : Type 0} → Meaning D → ℕ → World → ℕ → ℕ → ℕ → Input → Request → Option Takeover → D → Came D → Option Event → Type 0
ComesTo m cap w node reading acted asked wanted took old came None = IsShort m cap w took old came
ComesTo m cap w node reading acted asked wanted took old came (Some e) =
    IsStep m cap w reading acted asked took old came e × IsAsked w node reading wanted (e ∷ [])

-- the same in each world for which the manager stands, of each call whose own request it is
abbrev pub Comes : {D : Type 0} → Meaning D → Manager D → ℕ → Bool → ℕ → ℕ → Request → Option Takeover → Came D → Type 0
Comes m manager at live node reading wanted took came =
    (cap : ℕ) (w : World) (asked : Input) (acted : ℕ) → cap ≤ GREATEST_CAP → IsUp m cap w manager at → is_live w node ≡ live
    → own_request w node asked ≡ Some wanted
    → ComesTo m cap w node reading acted asked wanted took (disk_of manager) came came.event

-- the same where the disks tell
abbrev pub AskStep : {D : Type 0} → Meaning D → Manager D → ℕ → Bool → ℕ → ℕ → Request → Option Takeover → Came D → Type 0
AskStep m manager at live node reading wanted took came = IsTrue m.tells → Comes m manager at live node reading wanted took came

-- what a call's own step comes to, alone or beside a takeover, before which the turn acted at this moment
abbrev pub OwnComesTo : {D : Type 0} → Meaning D → ℕ → World → ℕ → ℕ → ℕ → Input → Beside → Option Takeover → D → Came D → Option Event → Type 0
OwnComesTo m cap w node reading acted asked beside took old came None = IsShort m cap w took old came
OwnComesTo m cap w node reading acted asked beside took old came (Some e) =
    IsStep m cap w reading acted asked took old came e × ((called : Call) → IsOwn w node reading called beside asked (e ∷ []))

-- the same in each world for which the manager and what is kept of the nodes stand
abbrev pub OwnComes : {D : Type 0} → Meaning D → Members → Manager D → ℕ → ℕ → ℕ → ℕ → Input → Beside → Option Takeover → Came D → Type 0
OwnComes m members manager at node reading acted asked beside took came =
    (cap : ℕ) (w : World) → cap ≤ GREATEST_CAP → AreMembersOf w members → IsUp m cap w manager at
    → OwnComesTo m cap w node reading acted asked beside took (disk_of manager) came came.event

-- the same of a call alone and of one beside any takeover, where the disks tell
abbrev pub OwnStep : {D : Type 0} → Meaning D → Members → Manager D → ℕ → ℕ → ℕ → Input → Option Takeover → Came D → Type 0
OwnStep m members manager at node reading asked took came =
    IsTrue m.tells → (acted : ℕ) (beside : Beside) → OwnComes m members manager at node reading acted asked beside took came

-- ---- whatever the disks tell

-- neither want of memory nor damage, nor that no more turns are kept
abbrev pub is_plain : Answer → Bool
is_plain (answer.NoMemory took) = false
is_plain (answer.Damaged file place) = false
is_plain answer.HistoryFull = false
is_plain (answer.Done took moment reply) = true
is_plain (answer.Shown took moment rows) = true
is_plain (answer.Duties took moment duties) = true
is_plain (answer.Refused took refusal) = true
is_plain (answer.Full took need cap) = true
is_plain (answer.Journal took live) = true
is_plain (answer.Fenced held current) = true
is_plain (answer.NoManager took name) = true

-- what a manager that is up makes of a call: no node comes up or goes, and none takes over
abbrev pub is_step : Event → Bool
is_step (event.Done node moment asked reply) = true
is_step (event.Refused node moment asked refusal) = true
is_step (event.Shown node moment asked) = true
is_step (event.Doubt node moment asked) = true
is_step (event.Full node need cap) = true
is_step (event.Fenced node held current) = true
is_step (event.NoManager node) = false
is_step (event.Took node moment epoch gone up may kept) = false
is_step (event.TakeDoubt node tried kept) = false
is_step (event.Stopped node) = false
is_step (event.Left node) = false
is_step (event.Started node) = false
is_step (event.Compacted node epoch file) = false
is_step (event.CompactDoubt node) = false

-- A step without an event is told that memory was short. Another one has an answer, which tells of a disk where the event does.
abbrev pub IsToldStep : Option Takeover → Option Event → Answer → Type 0
IsToldStep took None told = told ≡ answer.NoMemory took
IsToldStep took (Some e) told = (is_step e ≡ true) × (is_plain told ≡ true) × (is_journal told ≡ is_disk_fault e) × ShowsNodeDuties told

-- a manager that is still up is of these nodes, and on this one
abbrev pub IsOfNodes : {D : Type 0} → List (List ℕ) → ℕ → Work D → Type 0
IsOfNodes names at (Up manager node) = (cluster (standing_of manager).system ≡ names) × (node ≡ at)
IsOfNodes names at (Down files place) = Unit {0}

-- A step of a call, behind which the chest works with what this says: a fault is told just where one was counted, and then no manager
-- is up; the queue file that isn't live stays; and the answer is one that its event may have.
pub record LeavesStep {D : Type 0} (m : Meaning D) (Of : Work D → Type 0) (took : Option Takeover) (old : D) (came : Came D) : Type 0 where
  pub work : Of came.work
  pub leaves : LeavesDisk m old (work_disk came.work) (is_journal came.answer ≡ true)
  pub down : is_journal came.answer ≡ true → IsWithout came.work
  pub told : IsToldStep took came.event came.answer

-- a manager that is up behind it can be asked, of the nodes that are kept, of which one is its node
abbrev pub LeavesOwn : {D : Type 0} → Meaning D → Members → Option Takeover → Manager D → Came D → Type 0
LeavesOwn m members took manager came = LeavesStep m (IsWorkOf m members.names.items) took (disk_of manager) came

-- a manager that is up behind it can be asked, of the same nodes and on the same one
pub record IsSameManager {D : Type 0} (m : Meaning D) (manager : Manager D) (at : ℕ) (work : Work D) : Type 0 where
  pub ready : IsReadyWork m work
  pub nodes : IsOfNodes (cluster (standing_of manager).system) at work

abbrev pub LeavesAsked : {D : Type 0} → Meaning D → Option Takeover → Manager D → ℕ → Came D → Type 0
LeavesAsked m took manager at came = LeavesStep m (IsSameManager m manager at) took (disk_of manager) came

-- a request, a listing or a fetch
abbrev pub IsOwnStep : Input → Type 0
IsOwnStep (input.Ask asked) = Unit {0}
IsOwnStep (input.Show query) = Unit {0}
IsOwnStep (input.Fetch known) = Unit {0}
IsOwnStep input.Compact = ⊥
IsOwnStep (input.TakeManager on) = ⊥
IsOwnStep input.StartNode = ⊥
IsOwnStep input.StopNode = ⊥
IsOwnStep (input.Fault place kind) = ⊥

-- ---- a manager that makes its steps where it is

-- the record that a step wrote is in doubt
abbrev pub is_in_doubt : Option Event → Bool
is_in_doubt (Some (event.Doubt node moment asked)) = true
is_in_doubt _ = false

-- what a step came to, with what the chest then works with
abbrev pub came_of : {D : Type 0} → Step → Work D → Came D
came_of step work = record { work = work; event = step.event; answer = step.answer }

-- where the record in doubt would stand
abbrev pub place_behind : {D : Type 0} → Manager D → Place
place_behind manager = record { file = (standing_of manager).recorded.says.live; before = length (standing_of manager).recorded.bodies }

-- the manager let go of the role, with its record in doubt
pub record HasLetGo {D : Type 0} (manager : Manager D) (work : Work D) : Type 0 where
  pub closed : Closed D
  pub disk : closed_disk closed ≡ disk_of manager
  pub is : work ≡ Down (site_files.Closed closed) (Some (place_behind manager))

-- what the chest works with behind a step: the manager, unless its record is in doubt
abbrev pub IsBehind : {D : Type 0} → Manager D → ℕ → Bool → Work D → Type 0
IsBehind manager at true work = HasLetGo manager work
IsBehind manager at false work = work ≡ Up manager at

-- the same of a work on which a manager was up
abbrev pub IsBehindWork : {D : Type 0} → Work D → Bool → Work D → Type 0
IsBehindWork (Up manager at) doubt work = IsBehind manager at doubt work
IsBehindWork (Down files place) doubt work = Unit {0}

-- this holds of what the chest works with behind a step
abbrev pub Behind : {D : Type 0} → (Work D → Type 0) → Manager D → ℕ → Bool → Type 0
Behind P manager at true = (closed : Closed _) → closed_disk closed ≡ disk_of manager → P (Down (site_files.Closed closed) (Some (place_behind manager)))
Behind P manager at false = P (Up manager at)

-- a manager is up
abbrev pub HasManager : {D : Type 0} → Work D → Type 0
HasManager (Up manager at) = Unit {0}
HasManager (Down files place) = ⊥

-- this holds of what a step came to, with what the chest then works with
abbrev pub StepIs : {D : Type 0} → (Came D → Type 0) → Step → Manager D → ℕ → Type 0
StepIs P step manager at = Behind (λ work. P (came_of step work)) manager at (is_in_doubt step.event)

-- a request of a node, whose clock told this before, can be asked of the manager at the moment at which it acts
abbrev pub CanAsk : {D : Type 0} → Manager D → ℕ → ℕ → Request → Type 0
CanAsk manager node now asked = CanBeAsked (standing_of manager).system (acting now (standing_of manager).system) node asked

-- what a step alone is as a whole call, and what it is behind another event
abbrev pub served_alone : {D : Type 0} → Came D → Served D
served_alone came = record { work = came.work; first = came.event; second = None; answer = came.answer }

abbrev pub served_behind : {D : Type 0} → Event → Came D → Served D
served_behind first came = record { work = came.work; first = Some first; second = came.event; answer = came.answer }

-- what a step comes to: its record is there, or its call shows something or is refused, or its record has no room
abbrev pub done_step : ℕ → ℕ → Request → Replies → Option Takeover → Step
done_step node moment asked replies took =
    record { event = Some (event.Done node moment asked replies.kept); answer = answer.Done took moment replies.told }

abbrev pub shown_step : ℕ → ℕ → Input → Answer → Step
shown_step node moment asked told = record { event = Some (event.Shown node moment asked); answer = told }

abbrev pub refused_step : ℕ → ℕ → Input → Refusal → Option Takeover → Step
refused_step node moment asked refusal took =
    record { event = Some (event.Refused node moment asked refusal); answer = answer.Refused took refusal }

abbrev pub full_step : ℕ → ℕ → ℕ → Option Takeover → Step
full_step node need cap took = record { event = Some (event.Full node need cap); answer = answer.Full took need cap }

-- ---- what a manager tells

-- the rows that a query asks of a manager, on a node of this name
abbrev pub rows_of : {D : Type 0} → Manager D → List ℕ → Query → Result (List Row) Refusal
rows_of manager name query =
    let role : ManagerRole = record { node = name; epoch = (standing_of manager).recorded.says.epoch } in
    view (standing_of manager).system (Some role) query

-- why a node can't be started: the numbers of runs are spent, or it is live
abbrev pub start_refusal_of : System → Bool → Option Refusal
start_refusal_of s live = if are_numbers_spent s then Some refused.NumbersSpent else if live then Some refused.BadValue else None
