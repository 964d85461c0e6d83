-- How a takeover goes that comes before a call: its lists of nodes, what was read, and what it comes to.
-- OpenVMS System Manager's Manual, Managing the Queue Manager and Queue Database, on failover; DCL Dictionary,
-- START/QUEUE/MANAGER, /ON. This site's own: epochs, and the record in doubt.
use Rattle.std.specs.Prelude.{◌≡◌, ℕ, ◌+◌, ◌^◌, ◌<◌, ◌≤◌, ◌==◌, Bool, true, false, not, ◌&&◌, ◌||◌, if◌then◌else◌, List, [], ◌∷◌, length, map, slice_set, is_none, is_some, Option, None, Some, IsSome, IsTrue, Result, Ok, Err}
use Rattle.std.specs.List.{list_all, AllByRecursion}
use Rattle.qm_disk.specs.Disk.{CrashState, Meaning, IsLeft, IsQuiet, OnlyLooks}
use Rattle.qm_history.specs.Common.{Input, Request, Node, System, GREATEST_CAP, acting, is_among, system_of, node_at, OpenFault, cluster, takeover_of, input_of, is_journal, after_event, doubt_read, log_read, nodes_where, system_in}
use Rattle.qm_kinds.specs.declared.input.Input.TheVariants as input
use Rattle.qm_kinds.specs.declared.request.Request.TheVariants as request
use Rattle.qm_kinds.specs.declared.run.Start.{Start}
use Rattle.qm_store.specs.Recorded.{Recorded, IsAtRest, epoch_behind}
use Rattle.qm_store.specs.declared.closed.Closed.{Closed}
use Rattle.qm_glog.specs.declared.fault.OpenFault.TheVariants as opening
use Rattle.qm_acting.specs.Reading.{IsTold}
use Rattle.qm_acting.specs.Leaving.{LeavesDisk}
use Rattle.qm_acting.specs.Spare.{KeepsSpare}
use Rattle.qm_acting.specs.Standing.{Standing, disk_of, restored_standing, restored_disk, IsRestored}
use Rattle.qm_acting.specs.declared.files.Files.TheVariants as site_files
use Rattle.qm_acting.specs.declared.manager.Manager.{Manager}
use Rattle.qm_acting.specs.declared.restored.Restored.{Restored}
use Rattle.qm_history.specs.declared.call.Answer.{Answer}
use Rattle.qm_history.specs.declared.call.Answer.TheVariants as answer
use Rattle.qm_history.specs.declared.call.Call.{Call}
use Rattle.qm_history.specs.declared.call.Takeover.{Takeover}
use Rattle.qm_history.specs.declared.event.Event.{Event}
use Rattle.qm_history.specs.declared.event.Event.TheVariants as event
use Rattle.qm_history.specs.declared.world.World.{World}
use Rattle.qm_history.specs.Takeover.{is_named, may_after, nodes_on}
use Rattle.qm_chest.specs.At.{IsWorkOf, IsWithout}
use Rattle.qm_chest.specs.Members.{AreMembersOf}
use Rattle.qm_chest.specs.Work.{IsUp, work_disk}
use Rattle.qm_chest.specs.Duties.{ShowsNodeDuties}
use Rattle.qm_chest.specs.Holding.{MayHold, AllHold}
use Rattle.qm_chest.specs.Nodes.{nodes_listed}
use Rattle.qm_chest.specs.Parts.{HoldsWithin, Part}
use Rattle.qm_chest.specs.Whole.{AsksToTake, IsServedAs, IsToldBy, both}
use Rattle.qm_chest.specs.declared.members.Members.{Members}
use Rattle.qm_chest.specs.declared.work.Work.TheVariants.{Up, Down}
use Rattle.qm_chest.specs.declared.place.Place.{Place}
use Rattle.qm_chest.specs.declared.serving.Served.{Served}
use Rattle.qm_chest.specs.declared.taken.Taken.{Taken}

-- ---- the lists of nodes

-- the nodes whose runs a takeover finds lost, by which nodes are live and the epochs that they hold
abbrev pub gone_by : List Bool → List ℕ → List Node → List (List ℕ)
gone_by live held nodes =
    if list_all (λ epoch. epoch == 0) held then map (λ n. n.name) nodes else nodes_where (λ live n. n.up && not live) live nodes

-- the nodes that are up from a takeover of this node on
abbrev pub up_by : List Bool → ℕ → List Node → List (List ℕ)
up_by live node nodes = nodes_where (λ live n. live) (slice_set live node true) nodes

-- the nodes that may be manager: those that a command lists, or those that may so far
abbrev pub may_by : List Node → List (List ℕ) → Option (List (List ℕ)) → List (List ℕ)
may_by nodes may None = may
may_by nodes may (Some names) = nodes_listed nodes names

-- the node of this place may be manager by the list that a command gives, or by the one that is kept
abbrev pub may_manage : List Node → List (List ℕ) → Input → ℕ → Bool
may_manage nodes may what node = is_among (may_by nodes may (nodes_on what)) (node_at node nodes)

-- the nodes whose runs a takeover finds lost, by what is kept of the nodes
abbrev pub lost_by : Members → List Node → List (List ℕ)
lost_by members nodes = gone_by members.live.items members.held.items nodes

-- the request that a takeover of this node records, on nodes and a list that were read
abbrev pub took_by : Members → List Node → List (List ℕ) → ℕ → Input → ℕ → Request
took_by members nodes may node what epoch =
    request.Took epoch (lost_by members nodes) (up_by members.live.items node nodes) (may_by nodes may (nodes_on what))

-- the same on a system that was read
abbrev pub request_of : Members → System → ℕ → Input → ℕ → Request
request_of members s node what epoch = took_by members s.nodes s.may node what epoch

-- ---- what was read

-- the world whose files were read, with what that told of the record in doubt
abbrev pub read_world : World → Option Bool → World
read_world w kept = record w { log = log_read w kept; doubt = doubt_read w kept }

-- what reading tells of a record in doubt in this place, and nothing where none is in doubt
abbrev pub Finds : Recorded → Option Place → Option Bool → Type 0
Finds r None kept = kept ≡ None
Finds r (Some place) None = ⊥
Finds r (Some place) (Some kept) = IsTold r place.file place.before kept

-- What was read is the world's, with this of the record in doubt, and no crash can take it away. The files read as before, and until
-- then a crash left what it may within any events.
pub record IsReadOf {D : Type 0} (m : Meaning D) (cap : ℕ) (w : World) (kept : Option Bool) (old : D) (st : Standing) (disk : D) : Type 0 where
  pub told : is_some kept ≡ is_some w.doubt
  pub system : st.system ≡ system_of (log_read w kept)
  pub may : MayHold cap (read_world w kept) None st.recorded
  pub at_rest : IsAtRest m st.recorded disk
  pub looks : OnlyLooks m old disk
  pub before : (events : List Event) (crashed : CrashState) → IsLeft (m.may_leave old) crashed → HoldsWithin w events crashed

-- ---- a takeover that fails

-- what is told of it: what became of the record in doubt, where it was read
abbrev pub told_of_failed : ℕ → Option Bool → Option Takeover
told_of_failed tried None = None
told_of_failed tried (Some kept) = Some (record { epoch = tried; kept = Some kept; started = [] })

-- what the whole call then is: the epoch that may be recorded, and what followed
abbrev pub failed : {D : Type 0} → Closed D → Option Place → ℕ → ℕ → Option Bool → Option Event → Answer → Served D
failed closed place node tried kept second told =
    record { work = Down (site_files.Closed closed) place; first = Some (event.TakeDoubt node tried kept); second = second; answer = told }

-- its own record has no room, or that of its epoch
abbrev pub full_failed : {D : Type 0} → Closed D → ℕ → ℕ → Option Bool → ℕ → ℕ → Served D
full_failed closed node tried kept need cap =
    failed closed None node tried kept (Some (event.Full node need cap)) (answer.Full (told_of_failed tried kept) need cap)

-- memory was short
abbrev pub short_failed : {D : Type 0} → Closed D → ℕ → ℕ → Option Bool → Served D
short_failed closed node tried kept = failed closed None node tried kept None (answer.NoMemory (told_of_failed tried kept))

-- the node, which has this name, may not be manager
abbrev pub unnamed_failed : {D : Type 0} → Closed D → ℕ → ℕ → Option Bool → List ℕ → Served D
unnamed_failed closed node tried kept name =
    failed closed None node tried kept (Some (event.NoManager node)) (answer.NoManager (told_of_failed tried kept) name)

-- a disk failed, where the node is live or not
abbrev pub journal_failed : {D : Type 0} → Closed D → Option Place → ℕ → ℕ → Option Bool → Option Event → Bool → Served D
journal_failed closed place node tried kept second live =
    failed closed place node tried kept second (answer.Journal (told_of_failed tried kept) live)

-- what is answered where the files can't be read
abbrev pub unread_answer : Bool → OpenFault → Answer
unread_answer live opening.Disk = answer.Journal None live
unread_answer live (opening.Unformatted byte) = answer.Damaged 0 0
unread_answer live (opening.Damaged file place) = answer.Damaged file place
unread_answer live opening.NoMemory = answer.NoMemory None

-- ---- what a takeover comes to

-- A call that asks for this takes over in this world, for which the members stand, and isn't refused beside a manager.
pub record IsTaking (known : Members) (node : ℕ) (what : Input) (cap : ℕ) (w : World) (asked : Call) : Type 0 where
  pub asks : AsksToTake node what w asked
  pub members : AreMembersOf w known
  pub small : cap ≤ GREATEST_CAP
  pub early : w.greatest + 1 < 2 ^ 62
  pub named : not (is_none w.manager || is_named (system_in w) (nodes_on what) node) ≡ false

-- the event of a takeover that stands, and what is told of it
abbrev pub event_of : {D : Type 0} → ℕ → Taken D → Event
event_of node taken = event.Took node taken.moment taken.epoch taken.gone taken.up taken.may taken.kept

abbrev pub told_of : {D : Type 0} → Taken D → Takeover
told_of taken = record { epoch = taken.epoch; kept = taken.kept; started = taken.started }

-- a takeover of these epoch and lists, which recorded them at this moment and started these jobs
abbrev pub taken_with : {D : Type 0} → Manager D → ℕ → ℕ → List (List ℕ) → List (List ℕ) → List (List ℕ) → Option Bool → List Start → Taken D
taken_with manager moment epoch gone up may kept started =
    record { manager = manager; moment = moment; epoch = epoch; gone = gone; up = up; may = may; kept = kept; started = started }

-- A takeover stands: its event is a part of the call, at the moment and with the list that it is to have, and tells what is told;
-- members and manager stand for the world behind it.
pub record IsTaken {D : Type 0} (m : Meaning D) (cap : ℕ) (w : World) (node now : ℕ) (what : Input) (old : D) (known : Members) (taken : Taken D) : Type 0 where
  pub part : Part m None w now what false (event_of node taken ∷ []) old (disk_of taken.manager)
  pub moment : taken.moment ≡ acting now (system_of (log_read w taken.kept))
  pub may : taken.may ≡ may_after (system_of (log_read w taken.kept)) (nodes_on what)
  pub told : takeover_of w (event_of node taken ∷ []) ≡ Some (told_of taken)
  pub low : AllByRecursion (λ (held : ℕ). held ≤ w.greatest) w.held
  pub members : AreMembersOf (after_event w (event_of node taken)) known
  pub up : IsUp m cap (after_event w (event_of node taken)) taken.manager node

-- it stands; or it fails, and that is the whole call
abbrev pub TakesOrFails : {D : Type 0} → Meaning D → ℕ → World → ℕ → ℕ → Call → D → Members → Result (Taken D) (Served D) → Type 0
TakesOrFails m cap w node now asked old members (Ok taken) = IsTaken m cap w node now (input_of asked) old members taken
TakesOrFails m cap w node now asked old members (Err served) =
    IsServedAs m cap w node now asked old (record { members = members; work = served.work }) (both served.first served.second) served.answer

-- the same in each world in which the call takes over and whose files were read
abbrev pub TakesWhere : {D : Type 0} → Meaning D → Members → Restored D → Option Bool → ℕ → ℕ → Input → Members → Result (Taken D) (Served D) → Type 0
TakesWhere {D} m members restored kept node now what after result =
    IsTrue m.tells → (cap : ℕ) (w : World) (asked : Call) (old : D) → IsTaking members node what cap w asked
    → IsReadOf m cap w kept old (restored_standing restored) (restored_disk restored) → TakesOrFails m cap w node now asked old after result

-- the same of a call in each world which the files hold and in which it takes over
abbrev pub TakesOnFiles : {D : Type 0} → Meaning D → Members → D → Option Place → ℕ → ℕ → Input → Members → Served D → Type 0
TakesOnFiles m members old place node now what after served =
    IsTrue m.tells → (cap : ℕ) (w : World) (asked : Call) → IsTaking members node what cap w asked → AllHold m (MayHold cap w place) old
    → IsServedAs m cap w node now asked old (record { members = after; work = served.work }) (both served.first served.second) served.answer

-- and of what it does behind a takeover that stands, which began on some disk and with some members of the same nodes
abbrev pub FollowsTaken : {D : Type 0} → Meaning D → Members → Taken D → ℕ → ℕ → Input → Members → Served D → Type 0
FollowsTaken {D} m members taken node now what after served =
    IsTrue m.tells → (cap : ℕ) (w : World) (asked : Call) (old : D) (before : Members) → before.names.items ≡ members.names.items → IsTaking before node what cap w asked
    → IsTaken m cap w node now (input_of asked) old members taken
    → IsServedAs m cap w node now asked old (record { members = after; work = served.work }) (both served.first served.second) served.answer

-- the files hold some world whose greatest epoch is the one that is kept, and so early that one more can be tried
pub record AreEarly {D : Type 0} (m : Meaning D) (members : Members) (disk : D) (place : Option Place) : Type 0 where
  pub cap : ℕ
  pub w : World
  pub holds : AllHold m (MayHold cap w place) disk
  pub greatest : members.greatest ≡ w.greatest
  pub early : w.greatest + 1 < 2 ^ 62

-- ---- whatever the disks tell

-- A takeover can be tried on files that were read: they are of the nodes that are kept, and of epochs so early that one more can come.
pub record CanTake {D : Type 0} (m : Meaning D) (members : Members) (read : Restored D) (node : ℕ) : Type 0 where
  pub restored : IsRestored m read
  pub nodes : cluster (restored_standing read).system ≡ members.names.items
  pub there : node < length members.names.items
  pub epochs : members.greatest < 2 ^ 63
  pub early : IsTrue m.tells → epoch_behind (restored_standing read).recorded members.greatest < 2 ^ 62

-- A call began on this disk, with this as the greatest epoch that it may have tried: a manager that is up is of the same nodes, a fault
-- is told just where one was counted, and then no manager is up; the queue file that isn't live stays.
pub record LeavesFrom {D : Type 0} (m : Meaning D) (old : Members) (disk : D) (greatest : ℕ) (new : Members) (served : Served D) : Type 0 where
  pub work : IsWorkOf m new.names.items served.work
  pub names : new.names.items ≡ old.names.items
  pub rises : new.greatest ≤ greatest
  pub first : IsSome served.first
  pub leaves : LeavesDisk m disk (work_disk served.work) (is_journal served.answer ≡ true)
  pub down : is_journal served.answer ≡ true → IsWithout served.work
  pub told : IsToldBy (both served.first served.second) served.answer
  pub duties : ShowsNodeDuties served.answer

-- a manager of the same nodes is up behind a takeover that stands, and no disk failed
pub record TakesFrom {D : Type 0} (m : Meaning D) (old : Members) (disk : D) (node : ℕ) (new : Members) (taken : Taken D) : Type 0 where
  pub work : IsWorkOf m new.names.items (Up taken.manager node)
  pub names : new.names.items ≡ old.names.items
  pub rises : new.greatest ≤ old.greatest + 1
  pub quiet : IsQuiet m disk (disk_of taken.manager)
  pub spare : IsTrue m.tells → KeepsSpare m disk (disk_of taken.manager)

abbrev pub LeavesTaken : {D : Type 0} → Meaning D → Members → D → ℕ → Members → Result (Taken D) (Served D) → Type 0
LeavesTaken m old disk node new (Ok taken) = TakesFrom m old disk node new taken
LeavesTaken m old disk node new (Err served) = LeavesFrom m old disk (old.greatest + 1) new served

-- at this moment the request tells of the takeover of a node that may be manager, before a call that asks for this
pub record TellsTakeover (members : Members) (st : Standing) (node now : ℕ) (what : Input) (moment : ℕ) (asked : Request) : Type 0 where
  pub named : is_named st.system (nodes_on what) node ≡ true
  pub moment_is : moment ≡ acting now st.system
  pub is : asked ≡ request_of members st.system node what (epoch_behind st.recorded members.greatest)

-- ---- what a call asks for that a takeover can precede

-- it needs a manager, or is to make its node one
abbrev pub NeedsManager : Input → Type 0
NeedsManager (input.Ask asked) = Unit {0}
NeedsManager (input.Show query) = Unit {0}
NeedsManager (input.Fetch known) = Unit {0}
NeedsManager input.Compact = Unit {0}
NeedsManager (input.TakeManager on) = Unit {0}
NeedsManager input.StartNode = Unit {0}
NeedsManager input.StopNode = ⊥
NeedsManager (input.Fault place kind) = ⊥

-- the request tells of a takeover
abbrev pub IsTook : Request → Type 0
IsTook (request.Took epoch gone up may) = Unit {0}
IsTook asked = ⊥
