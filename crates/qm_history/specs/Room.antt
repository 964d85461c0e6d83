-- How far the files reach, what has room in them, and what is told where something has none.
-- OpenVMS System Manager's Manual, Managing the Queue Manager and Queue Database, on the size of the journal file.
-- This site's own: caps, and that a record without room changes nothing.
use Rattle.std.specs.Prelude.{◌≡◌, ◌⊎◌, ◌<◌, ◌≤◌, ℕ, ◌+◌, ◌-◌, ◌==◌, Bool, true, false, not, if◌then◌else◌, List, [], ◌∷◌, length, sum_by, Option, None, Some}
use Rattle.std.specs.List.{AllByRecursion}
use Rattle.qm_model.specs.Common.{Input, Record, Request, System, acting, after_record, request_record, image_of}
use Rattle.qm_kinds.specs.declared.input.Input.TheVariants as input
use Rattle.qm_kinds.specs.declared.request.Request.TheVariants as request
use Rattle.qm_record.specs.Spelling.{record_text}
use Rattle.qm_history.specs.declared.call.Call.{Call}
use Rattle.qm_history.specs.declared.event.Event.{Event}
use Rattle.qm_history.specs.declared.event.Event.TheVariants as event
use Rattle.qm_history.specs.declared.turn.Turn.{Turn}
use Rattle.qm_history.specs.declared.world.World.{World}
use Rattle.qm_history.specs.Calls.{input_of}
use Rattle.qm_history.specs.Faults.{tells_disk_fault}
use Rattle.qm_history.specs.Legal.{after_turn}
use Rattle.qm_history.specs.Master.{MasterRecord, MasterState, Epoch, Live, master_text}
use Rattle.qm_history.specs.Step.{after_event}
use Rattle.qm_history.specs.Takeover.{nodes_on, may_after, master_cap}
use Rattle.qm_history.specs.Turn.{IsTurnOf, IsCutShort, loss_of}
use Rattle.qm_history.specs.World.{system_in, gone_in, up_with}

-- how far the records of the master and of the live queue file reach, in bytes; which queue file is live; and its greatest size
pub record Room : Type 0 where
  pub master : ℕ
  pub live : ℕ
  pub file : ℕ
  pub cap : ℕ

-- what a record takes: its gate, its length and its body
abbrev pub taken : List ℕ → ℕ
taken body = 5 + length body

-- the place behind the closed gate behind a body that is appended at this end
abbrev pub need_behind : ℕ → List ℕ → ℕ
need_behind end body = end + taken body + 1

-- the queue file that isn't live
abbrev pub other_file : ℕ → ℕ
other_file file = 3 - file

-- the master with an epoch, and with another live file
abbrev pub epoch_need : Room → ℕ → ℕ → ℕ
epoch_need m epoch node = need_behind m.master (master_text (Epoch epoch node))

abbrev pub live_need : Room → ℕ → ℕ
live_need m epoch = need_behind m.master (master_text (Live (other_file m.file) epoch))

-- the event tells this need, which is above this cap
abbrev pub Lacks : ℕ → ℕ → Event → Type 0
Lacks wanted limit (event.Full node need cap) = (need ≡ wanted) × (cap ≡ limit) × (limit < wanted)
Lacks wanted limit other = ⊥

-- each need that is told is above its cap, which is a queue file's or the master's
abbrev pub IsAboveCap : ℕ → Event → Type 0
IsAboveCap queue_cap (event.Full node need cap) = (cap < need) × ((cap ≡ queue_cap) ⊎ (cap ≡ master_cap))
IsAboveCap queue_cap other = Unit {0}

-- the request whose record a call's own events write or have no room for
abbrev pub own_request : World → ℕ → Input → Option Request
own_request w node (input.Ask asked) = Some asked
own_request w node input.StartNode = Some request.NodeUp
own_request w node input.StopNode = Some (loss_of w node)
own_request w node (input.Show query) = None
own_request w node (input.Fetch known) = None
own_request w node input.Compact = None
own_request w node (input.TakeManager on) = None
own_request w node (input.Fault place kind) = None

-- the record of a takeover that was tried on what was read
abbrev pub tried_takeover : World → ℕ → ℕ → Option (List (List ℕ)) → Record
tried_takeover w node reading on =
    let s = system_in w in
    request_record (acting reading s) node (request.Took w.greatest (gone_in w s) (up_with w node s) (may_after s on))

-- the image takes the place of a takeover's record
abbrev pub is_compaction : Event → Bool
is_compaction (event.Compacted node epoch file) = true
is_compaction other = false

abbrev pub is_compacted_next : List Event → Bool
is_compacted_next [] = false
is_compacted_next (e ∷ events) = is_compaction e

-- whether a takeover that failed came to its epoch
abbrev pub failed_by : World → Event → Option Bool
failed_by w (event.TakeDoubt node tried kept) = Some (not (tried == w.greatest))
failed_by w other = None

-- this, unless that
abbrev pub Unless : Bool → Type 0 → Type 0
Unless true Asked = Unit {0}
Unless false Asked = Asked

-- the queue file with one record more
abbrev pub record_need : Room → Record → ℕ
record_need m r = need_behind m.live (record_text r)

-- how many bytes the rows of a system take
abbrev pub image_size : System → ℕ
image_size s = sum_by (λ (r : Record). taken (record_text r)) (image_of s)

-- the place behind the closed gate behind an image
abbrev pub image_need : System → ℕ
image_need s = image_size s + 1

-- the room behind an event, as long as no disk failed
abbrev pub room_after : World → Room → Event → Room
room_after w m (event.Took node moment epoch gone up may kept) = record m {
  master = m.master + taken (master_text (Epoch epoch node));
  live = m.live + taken (record_text (request_record moment node (request.Took epoch gone up may)));
}
room_after w m (event.TakeDoubt node tried kept) =
    if tried == w.greatest then m else record m { master = m.master + taken (master_text (Epoch tried node)) }
room_after w m (event.Done node moment asked reply) = record m { live = m.live + taken (record_text (request_record moment node asked)) }
room_after w m (event.Compacted node epoch file) = record m {
  master = m.master + taken (master_text (Live file epoch));
  live = image_size (system_in w);
  file = file;
}
room_after w m (event.Refused node moment asked refusal) = m
room_after w m (event.Shown node moment asked) = m
room_after w m (event.Doubt node moment asked) = m
room_after w m (event.Full node need cap) = m
room_after w m (event.NoManager node) = m
room_after w m (event.Fenced node held current) = m
room_after w m (event.Stopped node) = m
room_after w m (event.Left node) = m
room_after w m (event.Started node) = m
room_after w m (event.CompactDoubt node) = m

abbrev pub room_after_events : World → Room → List Event → Room
room_after_events w m [] = m
room_after_events w m (e ∷ events) = room_after_events (after_event w e) (room_after w m e) events

-- an image has no room; or it has, and the record that makes its file the live one has none in the master
abbrev pub LacksForImage : Room → ℕ → System → Event → Type 0
LacksForImage m epoch s e =
    Lacks (image_need s) m.cap e ⊎ ((image_need s ≤ m.cap) × Lacks (live_need m epoch) master_cap e)

-- the record of a call's own request has no room
abbrev pub LacksForRecord : World → Room → ℕ → ℕ → Option Request → Event → Type 0
LacksForRecord w m node reading None e = ⊥
LacksForRecord w m node reading (Some asked) e =
    Lacks (record_need m (request_record (acting reading (system_in w)) node asked)) m.cap e

-- what a call's own events write has no room
abbrev pub LacksForOwn : World → Room → ℕ → ℕ → Input → Event → Type 0
LacksForOwn w m node reading input.Compact e = LacksForImage m w.greatest (system_in w) e
LacksForOwn w m node reading asked e = LacksForRecord w m node reading (own_request w node asked) e

-- the record of a takeover has no room, and at COMPACT neither has the image in its place
abbrev pub LacksForTakeover : World → Room → ℕ → ℕ → Input → Event → Type 0
LacksForTakeover w m node reading input.Compact e =
    (m.cap < record_need m (tried_takeover w node reading None))
    × LacksForImage m w.greatest (after_record (system_in w) (tried_takeover w node reading None)) e
LacksForTakeover w m node reading asked e = Lacks (record_need m (tried_takeover w node reading (nodes_on asked))) m.cap e

-- What has no room: behind no failed takeover, what the call's own events write; behind one that didn't come to its epoch, that
-- epoch in the master; and behind one that did, what the takeover writes next.
abbrev pub LacksBehind : Option Bool → World → Room → ℕ → ℕ → Input → Event → Type 0
LacksBehind None w m node reading asked e = LacksForOwn w m node reading asked e
LacksBehind (Some false) w m node reading asked e = Lacks (epoch_need m (w.greatest + 1) node) master_cap e
LacksBehind (Some true) w m node reading asked e = LacksForTakeover w m node reading asked e

-- an image has room, and so has the record by which the master makes its file the live one
abbrev pub HasRoomForImage : Room → ℕ → System → Type 0
HasRoomForImage m epoch s = (image_need s ≤ m.cap) × (live_need m epoch ≤ master_cap)

-- a record that is in doubt has room, or at COMPACT the image in its place
abbrev pub HasRoomInDoubt : World → Room → Input → Record → Type 0
HasRoomInDoubt w m input.Compact r = (record_need m r ≤ m.cap) ⊎ HasRoomForImage m w.greatest (after_record (system_in w) r)
HasRoomInDoubt w m asked r = record_need m r ≤ m.cap

-- what an event writes, or tried to, has room; of what has none the need and the cap are told
abbrev pub HasRoom : Option Bool → World → Room → ℕ → Input → Event → List Event → Type 0
HasRoom failed w m reading asked (event.Done node moment r reply) events = record_need m (request_record moment node r) ≤ m.cap
HasRoom failed w m reading asked (event.Doubt node moment r) events = HasRoomInDoubt w m asked (request_record moment node r)
HasRoom failed w m reading asked (event.Took node moment epoch gone up may kept) events =
    (epoch_need m epoch node ≤ master_cap)
    × Unless (is_compacted_next events) (record_need m (request_record moment node (request.Took epoch gone up may)) ≤ m.cap)
HasRoom failed w m reading asked (event.TakeDoubt node tried kept) events = Unless (tried == w.greatest) (epoch_need m tried node ≤ master_cap)
HasRoom failed w m reading asked (event.Compacted node epoch file) events =
    (file ≡ other_file m.file) × HasRoomForImage m epoch (system_in w)
HasRoom failed w m reading asked (event.Full node need cap) events = LacksBehind failed w m node reading asked (event.Full node need cap)
HasRoom failed w m reading asked (event.Refused node moment input refusal) events = Unit {0}
HasRoom failed w m reading asked (event.Shown node moment input) events = Unit {0}
HasRoom failed w m reading asked (event.NoManager node) events = Unit {0}
HasRoom failed w m reading asked (event.Fenced node held current) events = Unit {0}
HasRoom failed w m reading asked (event.Stopped node) events = Unit {0}
HasRoom failed w m reading asked (event.Left node) events = Unit {0}
HasRoom failed w m reading asked (event.Started node) events = Unit {0}
HasRoom failed w m reading asked (event.CompactDoubt node) events = HasRoomForImage m w.greatest (system_in w)

-- the events of a call, behind a takeover that failed or not, have room or tell what has none
abbrev pub HaveRoom : Option Bool → World → Room → ℕ → Input → List Event → Type 0
HaveRoom failed w m reading asked [] = Unit {0}
HaveRoom failed w m reading asked (e ∷ events) =
    HasRoom failed w m reading asked e events × HaveRoom (failed_by w e) (after_event w e) (room_after w m e) reading asked events

-- the turn of this call tells of room what is so
abbrev pub IsRoomTold : World → Room → Call → Turn → Type 0
IsRoomTold w m asked t = HaveRoom None w m t.moment (input_of asked) t.events

-- it is the turn of some call, and tells of room what is so
pub record IsWithinRoom (w : World) (m : Room) (t : Turn) : Type 0 where
  pub asked : Call
  pub turn_is : IsTurnOf w asked t ⊎ IsCutShort w asked t
  pub told : IsRoomTold w m asked t

-- From the first turn on in which a disk failed, how far the files reach isn't known any more.
abbrev pub UnlessFailed : Bool → Type 0 → Type 0
UnlessFailed true Rest = Unit {0}
UnlessFailed false Rest = Rest

-- each turn up to the first one in which a disk failed, that one too, tells of room what is so
abbrev pub AreWithinRoom : World → Room → List Turn → Type 0
AreWithinRoom w m [] = Unit {0}
AreWithinRoom w m (t ∷ turns) =
    IsWithinRoom w m t × UnlessFailed (tells_disk_fault t.events) (AreWithinRoom (after_turn w t) (room_after_events w m t.events) turns)

-- the room that is taken on files of these records
abbrev pub room_in : MasterState → List MasterRecord → List Record → Room
room_in says masters records = record {
  master = sum_by (λ (r : MasterRecord). taken (master_text r)) masters;
  live = sum_by (λ (r : Record). taken (record_text r)) records;
  file = says.live;
  cap = says.cap;
}

-- whatever failed, a need that is told is above its cap
abbrev pub AreAboveCap : ℕ → List Turn → Type 0
AreAboveCap queue_cap turns = AllByRecursion (λ (t : Turn). AllByRecursion (IsAboveCap queue_cap) t.events) turns
