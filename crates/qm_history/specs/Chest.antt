-- What the value stands for on which the nodes work in turns: its own turns behind the world with which it began.
-- OpenVMS System Manager's Manual, Managing the Queue Manager and Queue Database, on the queue manager process and its files.
-- This site's own: one value with the files and the image, and the notes of its turns.
use Rattle.std.specs.Prelude.{◌≡◌, ◌≢◌, ◌⊎◌, ℕ, ◌+◌, ◌-◌, ◌^◌, ◌<◌, ◌≤◌, min, Bool, true, false, List, [], ◌∷◌, ◌++◌, length, filter_map, count_by, ◌&&◌, is_some, Option, None, Some, IsTrue, IsNone, option_map}
use Rattle.qm_disk.specs.Disk.{CrashState, Meaning, LeavesOnly, OnlyLooks, TellsFaults}
use Rattle.qm_model.specs.Common.{Record, System}
use Rattle.qm_history.specs.declared.call.Answer.{Answer}
use Rattle.qm_history.specs.declared.call.Answer.TheVariants as answer
use Rattle.qm_history.specs.declared.call.Call.{Call}
use Rattle.qm_history.specs.declared.turn.Turn.{Turn}
use Rattle.qm_history.specs.declared.world.Role.{Role}
use Rattle.qm_history.specs.declared.world.World.{World}
use Rattle.qm_history.specs.Answering.{MayAnswer}
use Rattle.qm_history.specs.Calls.{why_of}
use Rattle.qm_history.specs.Contents.{HoldWorld, HoldWithin, HoldIn, Keeps, LeavesFiles, CompactsFiles, are_without_write, compacted_by}
use Rattle.qm_history.specs.Faults.{faults_told, is_journal, tells_disk_fault}
use Rattle.qm_history.specs.Legal.{after_turn, after_turns}
use Rattle.qm_history.specs.Master.{MasterState}
use Rattle.qm_history.specs.Room.{Room, AreAboveCap, IsRoomTold, UnlessFailed, room_after_events, room_in}
use Rattle.qm_history.specs.Start.{HoldRecords, Starts}
use Rattle.qm_history.specs.Turn.{IsCutShort, IsTurnOf}
use Rattle.qm_history.specs.World.{system_in}

-- the most turns that are kept
abbrev pub turns_kept : ℕ
turns_kept = 1000000

-- The disks; the manager, and the image that it serves, while one is up; the greatest epoch, and whether a record is in doubt;
-- the nodes that are live, and the epoch that each holds; the turns; and how many calls were told that a disk failed.
pub record Chest (D : Type 0) : Type 0 where
  pub disk : D
  pub manager : Option Role
  pub image : Option System
  pub greatest : ℕ
  pub is_in_doubt : Bool
  pub live : List Bool
  pub held : List ℕ
  pub turns : List Turn
  pub failed : ℕ

-- the image that is served in a world: that of its log, while a manager is up
abbrev pub image_in : World → Option System
image_in w = option_map (λ (role : Role). system_in w) w.manager

-- what the chest keeps in memory is the world's
pub record TellsWorld {D : Type 0} (w : World) (c : Chest D) : Type 0 where
  pub manager : c.manager ≡ w.manager
  pub image : c.image ≡ image_in w
  pub greatest : c.greatest ≡ w.greatest
  pub doubt : c.is_in_doubt ≡ is_some w.doubt
  pub live : c.live ≡ w.live
  pub held : c.held ≡ w.held

-- What is noted of a call: what it asked for, the turn that it left, if it left one, and whether that turn tells of a takeover in
-- doubt where the call was told that memory was short or a file damaged.
pub record Note : Type 0 where
  pub asked : Call
  pub turn : Option Turn
  pub unread : Bool

-- the turns that are noted, without the calls that left none
abbrev pub turns_noted : List Note → List Turn
turns_noted notes = filter_map (λ (n : Note). n.turn) notes

-- how many of the turns tell of a disk that failed where their calls weren't told so
abbrev pub unread_of : List Note → ℕ
unread_of notes = count_by (λ (n : Note). n.unread) notes

-- the answer hides what the events of its turn tell
abbrev pub hides_events : Answer → Bool
hides_events (answer.NoMemory took) = true
hides_events (answer.Damaged file place) = true
hides_events (answer.Done took moment reply) = false
hides_events (answer.Shown took moment rows) = false
hides_events (answer.Duties took moment duties) = false
hides_events (answer.Refused took refusal) = false
hides_events (answer.Full took need cap) = false
hides_events (answer.Journal took live) = false
hides_events (answer.Fenced held current) = false
hides_events (answer.NoManager took name) = false
hides_events answer.HistoryFull = false

-- whether a turn that was answered so tells of a disk that failed, and its call wasn't told
abbrev pub is_unread : Option Turn → Answer → Bool
is_unread None told = false
is_unread (Some t) told = tells_disk_fault t.events && hides_events told

-- a turn that a call left is of the node that made it, at the moment that its clock told, and says why it was made
abbrev pub IsMadeFor : ℕ → ℕ → Call → Option Turn → Type 0
IsMadeFor node now asked None = Unit {0}
IsMadeFor node now asked (Some t) = (t.node ≡ node) × (t.moment ≡ now) × (t.why ≡ why_of asked)

-- why a call left no turn: as many are kept as can be, or memory was short and no takeover had come
abbrev pub MayLeaveNone : List Turn → Answer → Type 0
MayLeaveNone turns told = ((told ≡ answer.HistoryFull) × (length turns ≡ turns_kept)) ⊎ (told ≡ answer.NoMemory None)

-- behind these turns the call left one more, or none for a reason; that no more are kept is told only where it left none
abbrev pub LeavesTurn : List Turn → Option Turn → Answer → Type 0
LeavesTurn turns None told = MayLeaveNone turns told
LeavesTurn turns (Some t) told = told ≢ answer.HistoryFull

-- Each noted turn is one of the call that is noted with it.
abbrev pub IsNoted : World → Call → Option Turn → (World → Type 0) → Type 0
IsNoted w asked None Rest = Rest w
IsNoted w asked (Some t) Rest = (IsTurnOf w asked t ⊎ IsCutShort w asked t) × Rest (after_turn w t)

abbrev pub AreNoted : World → List Note → Type 0
AreNoted w [] = Unit {0}
AreNoted w (n ∷ notes) = IsNoted w n.asked n.turn (λ after. AreNoted after notes)

-- Each noted turn up to the first one in which a disk failed, that one too, tells of room what is so of its noted call.
abbrev pub IsNotedInRoom : World → Room → Call → Option Turn → (World → Room → Type 0) → Type 0
IsNotedInRoom w room asked None Rest = Rest w room
IsNotedInRoom w room asked (Some t) Rest =
    IsRoomTold w room asked t
    × UnlessFailed (tells_disk_fault t.events) (Rest (after_turn w t) (room_after_events w room t.events))

abbrev pub AreRoomTold : World → Room → List Note → Type 0
AreRoomTold w room [] = Unit {0}
AreRoomTold w room (n ∷ notes) = IsNotedInRoom w room n.asked n.turn (λ after room. AreRoomTold after room notes)

module _ {D : Type 0} (m : Meaning D) where
  -- The chest began in this world, on disks that hold it. Each of its turns is one of the call that is noted with it, and tells
  -- of room what is so of that call. Behind them it stands for the world that they leave: in memory, on the disks, and at each
  -- moment since it began in what a crash leaves.
  pub record StandsFor (w : World) (began : D) (c : Chest D) (notes : List Note) : Type 0 where
    pub starts : Starts (m.seen began) w
    -- so early that all turns that can be kept find epochs that a master can hold
    pub early : starts.says.epoch < 2 ^ 61
    pub noted : AreNoted w notes
    pub room : AreRoomTold w (room_in starts.says starts.hold.masters starts.records) notes
    pub caps : AreAboveCap starts.says.cap c.turns
    pub tells : TellsWorld (after_turns w c.turns) c
    pub keeps : Keeps m (after_turns w c.turns) c.disk
    pub moments : LeavesOnly m began c.disk (λ crashed. HoldIn crashed w c.turns)

  -- What holds of the chest and the notes of the turns that it was handed in: that is what a turnstile keeps between two turns.
  -- Of disks that don't tell their contents nothing is known but how many calls failed.
  pub record Stands (w : World) (began : D) (c : Chest D) (notes : List Note) : Type 0 where
    pub turns : c.turns ≡ turns_noted notes
    pub few : length c.turns ≤ turns_kept
    pub failed : m.faults c.disk ≡ min (m.faults began + c.failed) (2 ^ 64 - 1)
    pub told : faults_told c.turns ≡ c.failed + unread_of notes
    pub stands : IsTrue m.tells → StandsFor w began c notes

  -- how far the later files reach, by how far the earlier ones did
  abbrev pub Grow : CrashState → CrashState → (Room → Room) → Type 0
  Grow before after grown =
      (said says : MasterState) (old new : List Record) → (was : HoldRecords before said old)
      → (is : HoldRecords after says new) → room_in says is.masters new ≡ grown (room_in said was.masters old)

  -- A call that left a turn: the turn is one of the call, with this answer, and no file is damaged; at each moment a crash leaves
  -- what it may within the turn; where the turn writes nothing, the files are as they were; and where no disk failed in it, they
  -- then reach as far as its events tell.
  pub record AddsTurn (w : World) (old new : D) (asked : Call) (t : Turn) (told : Answer) : Type 0 where
    pub answers : MayAnswer w asked t told
    pub undamaged : (file place : ℕ) → told ≡ answer.Damaged file place → ⊥
    pub moments : LeavesOnly m old new (λ crashed. HoldWithin crashed w t)
    pub files : LeavesFiles m (are_without_write t.events) old new
    pub compacts : CompactsFiles m (after_turn w t) old new (compacted_by t.events)
    pub reaches : tells_disk_fault t.events ≡ false → Grow (m.seen old) (m.seen new) (λ room. room_after_events w room t.events)

  -- a call that left none: at each moment a crash leaves what it might before, the files reach no further, and where no more
  -- turns are kept nothing is written
  pub record AddsNone (w : World) (old new : D) (told : Answer) : Type 0 where
    pub files : told ≡ answer.HistoryFull → OnlyLooks m old new
    pub moments : LeavesOnly m old new (λ crashed. HoldWorld crashed w)
    pub reaches : Grow (m.seen old) (m.seen new) (λ room. room)

  abbrev pub Adds : World → D → D → Call → Option Turn → Answer → Type 0
  Adds w old new asked None told = AddsNone w old new told
  Adds w old new asked (Some t) told = AddsTurn w old new asked t told

  -- The turn of this call, if it left one, tells of room what is so of the files as they were before it, whatever failed earlier.
  abbrev pub TellsRoom : World → CrashState → Call → Option Turn → Type 0
  TellsRoom w files asked None = Unit {0}
  TellsRoom w files asked (Some t) =
      (says : MasterState) (records : List Record) → (h : HoldRecords files says records)
      → IsRoomTold w (room_in says h.masters records) asked t

  -- What the noted call of this node, with this reading, does to a chest that stands for a world and these notes, where it
  -- keeps the rules: the turn is of that node, reading and call, or there is none for a reason; the answer tells of a disk that
  -- failed just where one did, and then no manager is up; what it tells of room is so of this call; and the chest then stands
  -- for one note more.
  pub record Serves (w : World) (began : D) (old new : Chest D) (notes : List Note) (node now : ℕ) (note : Note) (told : Answer) : Type 0 where
    pub made : IsMadeFor node now note.asked note.turn
    pub leaves : LeavesTurn old.turns note.turn told
    pub unread : note.unread ≡ is_unread note.turn told
    pub faults : TellsFaults m old.disk new.disk (is_journal told ≡ true)
    pub down : is_journal told ≡ true → IsNone new.manager
    pub adds : IsTrue m.tells → Adds (after_turns w old.turns) old.disk new.disk note.asked note.turn told
    pub room : IsTrue m.tells → TellsRoom (after_turns w old.turns) (m.seen old.disk) note.asked note.turn
    pub stands : Stands w began new (notes ++ note ∷ [])
