-- A part of a call: some of the events of its turn, and what the disks do meanwhile. Parts come one behind another: the world goes
-- on, the room goes on, and what a crash leaves within the second part it leaves within both.
-- OpenVMS System Manager's Manual, Managing the Queue Manager and Queue Database, on the recovery of the queue database.
use Rattle.std.specs.Prelude.{◌≡◌, ◌<◌, ◌≤◌, ℕ, Bool, true, false, List, [], ◌∷◌, length, Option, None}
use Rattle.std.specs.List.{AllByRecursion}
use Rattle.qm_history.specs.Common.{CrashState, Meaning, LeavesOnly, Input, Record, Grow, MayAnswer, input_of, IsFromOutside, tells_disk_fault, told_by, MasterState, HoldRecords, CanAllCome, after_event, system_in}
use Rattle.qm_history.specs.declared.call.Answer.{Answer}
use Rattle.qm_history.specs.declared.call.Answer.TheVariants as answer
use Rattle.qm_history.specs.declared.call.Call.{Call}
use Rattle.qm_history.specs.declared.event.Event.{Event}
use Rattle.qm_history.specs.declared.turn.Turn.{Turn}
use Rattle.qm_history.specs.declared.turn.Why.TheVariants as why
use Rattle.qm_history.specs.declared.world.World.{World}
use Rattle.qm_history.specs.Contents.{HoldWithin, LeavesFiles, are_without_write, compacted_by}
use Rattle.qm_history.specs.Happening.{may_come_first}
use Rattle.qm_history.specs.Room.{Room, HaveRoom, failed_by, is_compacted_next, room_after_events, room_in}
use Rattle.qm_chest.specs.Turns.{made_turn}

-- a turn of these events, of which nothing else counts here
abbrev pub turn_with : List Event → Turn
turn_with events = record { node = 0; why = why.Leave; moment = 0; events = events }

-- the files hold what a crash within these events may leave
abbrev pub HoldsWithin : World → List Event → CrashState → Type 0
HoldsWithin w events crashed = HoldWithin crashed w (turn_with events)

-- files that hold records of a site
pub record HoldSome (files : CrashState) : Type 0 where
  pub says : MasterState
  pub records : List Record
  pub holds : HoldRecords files says records

-- the room that files have, whatever records they hold
abbrev pub OfRoom : CrashState → (Room → Type 0) → Type 0
OfRoom files P =
    (says : MasterState) (records : List Record) → (h : HoldRecords files says records) → P (room_in says h.masters records)

-- Some events of a turn of a call, which asked for this at a reading of its node's clock, behind a takeover that failed or not. They
-- may come in this world; a crash leaves what it may within them; where none writes, the files are as they were; where no disk
-- failed, the files then reach as far as the events tell; and each has room, or tells what has none.
pub record Part {D : Type 0} (m : Meaning D) (behind : Option Bool) (w : World) (reading : ℕ)
    (asked : Input) (failed : Bool) (events : List Event) (old new : D) : Type 0 where
  pub comes : CanAllCome w events
  pub moments : LeavesOnly m old new (HoldsWithin w events)
  pub files : LeavesFiles m (are_without_write events) old new
  pub reaches : failed ≡ false → Grow m (m.seen old) (m.seen new) (λ room. room_after_events w room events)
  pub room : OfRoom (m.seen old) (λ room. HaveRoom behind w room reading asked events)

-- Two parts of a call: an event with which a turn may begin, and in which no disk failed; and the events behind it, which tell of no
-- record in doubt and compact nothing. Between them the files hold records of a site, and no node holds an epoch above the greatest.
pub record AreTwoParts {D : Type 0} (m : Meaning D) (w : World) (reading : ℕ) (asked : Input) (failed : Bool)
    (e : Event) (events : List Event) (old mid new : D) : Type 0 where
  pub begins : may_come_first e ≡ true
  pub tells : told_by events ≡ None
  pub next : is_compacted_next events ≡ false
  pub low : AllByRecursion (λ (h : ℕ). h ≤ w.greatest) w.held
  pub between : HoldSome (m.seen mid)
  pub first : Part m None w reading asked false (e ∷ []) old mid
  pub second : Part m (failed_by w e) (after_event w e) reading asked failed events mid new

-- these events are all of a call of a node that is there, which comes from outside
pub record IsWholeCall {D : Type 0} (m : Meaning D) (w : World) (node reading : ℕ) (asked : Call) (failed : Bool)
    (events : List Event) (old new : D) : Type 0 where
  pub there : node < length (system_in w).nodes
  pub outside : IsFromOutside (input_of asked)
  pub part : Part m None w reading (input_of asked) failed events old new

-- This may be the call's answer: it tells of no damage, and a disk failed only where the events tell so; nothing was compacted.
pub record IsAnsweredBy (w : World) (node reading : ℕ) (asked : Call) (failed : Bool) (events : List Event) (told : Answer) : Type 0 where
  pub may : MayAnswer w asked (made_turn node reading asked events) told
  pub undamaged : (file place : ℕ) → told ≡ answer.Damaged file place → ⊥
  pub quiet : tells_disk_fault events ≡ false → failed ≡ false
  pub image : compacted_by events ≡ None
