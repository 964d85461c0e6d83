-- What the disks hold of a history: behind each call, at each moment of one, and in what a crash leaves.
-- OpenVMS System Manager's Manual, Managing the Queue Manager and Queue Database, on the files of the queue database and their
-- recovery. This site's own: that calls which record nothing leave all files as they are.
use Rattle.std.specs.Prelude.{◌≡◌, ◌≢◌, ℕ, ◌≤◌, Bool, true, false, List, [], ◌∷◌, Option, None, Some}
use Rattle.std.specs.List.{list_all, AllByRecursion}
use Rattle.qm_disk.specs.Disk.{CrashState, Meaning, IsLeft, OnlyLooks}
use Rattle.qm_model.specs.Common.{Record, image_of}
use Rattle.qm_history.specs.declared.event.Event.{Event}
use Rattle.qm_history.specs.declared.event.Event.TheVariants as event
use Rattle.qm_history.specs.declared.turn.Turn.{Turn}
use Rattle.qm_history.specs.declared.world.Role.{Role}
use Rattle.qm_history.specs.declared.world.World.{World}
use Rattle.qm_history.specs.Leaving.{MayBeLeft, MayBeLeftBehind, MayBeLeftIn}
use Rattle.qm_history.specs.Master.{MasterState}
use Rattle.qm_history.specs.Start.{Hold, HoldRecords}
use Rattle.qm_history.specs.World.{system_in}

-- the event writes nothing into the files
abbrev pub is_without_write : Event → Bool
is_without_write (event.Refused node moment asked refusal) = true
is_without_write (event.Shown node moment asked) = true
is_without_write (event.Full node need cap) = true
is_without_write (event.NoManager node) = true
is_without_write (event.Fenced node held current) = true
is_without_write (event.Stopped node) = true
is_without_write (event.Left node) = true
is_without_write (event.Started node) = true
is_without_write (event.Done node moment asked reply) = false
is_without_write (event.Doubt node moment asked) = false
is_without_write (event.Took node moment epoch gone up may kept) = false
is_without_write (event.TakeDoubt node tried kept) = false
is_without_write (event.Compacted node epoch file) = false
is_without_write (event.CompactDoubt node) = false

-- none of these writes anything
abbrev pub are_without_write : List Event → Bool
are_without_write events = list_all is_without_write events

-- the file that a compaction made the live one
abbrev pub compacted_file : Event → Option ℕ
compacted_file (event.Compacted node epoch file) = Some file
compacted_file other = None

-- the one that a turn did, whose last event tells it
abbrev pub compacted_by : List Event → Option ℕ
compacted_by [] = None
compacted_by (e ∷ []) = compacted_file e
compacted_by (e ∷ next ∷ events) = compacted_by (next ∷ events)

-- the manager's epoch, or while none is up one that was recorded or tried
abbrev pub IsEpochOf : World → Option Role → ℕ → Type 0
IsEpochOf w None epoch = epoch ≤ w.greatest
IsEpochOf w (Some role) epoch = epoch ≡ role.epoch

-- where nothing is written, the files are as they were, and a crash leaves what it might before
abbrev pub LeavesFiles : {D : Type 0} → Meaning D → Bool → D → D → Type 0
LeavesFiles m true old new = OnlyLooks m old new
LeavesFiles m false old new = Unit {0}

-- the files hold a log that a crash may leave behind these turns, and their master tells the epoch
pub record HoldWorld (files : CrashState) (w : World) : Type 0 where
  pub log : List Record
  pub left : MayBeLeftBehind w log
  pub holds : Hold files log
  pub epoch : IsEpochOf w w.manager holds.says.epoch
  -- each epoch that a node holds is in the master
  pub recorded : AllByRecursion (λ (held : ℕ). held ≤ holds.says.epoch) w.held

-- the files hold what a crash within this turn may leave
pub record HoldWithin (files : CrashState) (w : World) (t : Turn) : Type 0 where
  pub log : List Record
  pub left : MayBeLeft w t log
  pub holds : Hold files log
  pub recorded : AllByRecursion (λ (held : ℕ). held ≤ holds.says.epoch) w.held

-- the files hold what a crash at some moment of these turns may leave
pub record HoldIn (files : CrashState) (w : World) (turns : List Turn) : Type 0 where
  pub log : List Record
  pub left : MayBeLeftIn w turns log
  pub holds : Hold files log

-- A compaction has made this file the live one, which wasn't before, and it holds the rows of the system alone.
pub record Compacts (before after : CrashState) (file : ℕ) (w : World) : Type 0 where
  pub said : MasterState
  pub says : MasterState
  pub old : List Record
  pub was : HoldRecords before said old
  pub is : HoldRecords after says (image_of (system_in w))
  pub live : says.live ≡ file
  pub other : file ≢ said.live

module _ {D : Type 0} (m : Meaning D) where
  -- what the disks read as, and each crash state, is the world's; so what was acknowledged is there
  pub record Keeps (w : World) (disk : D) : Type 0 where
    pub reads : HoldWorld (m.seen disk) w
    pub crash : (crashed : CrashState) → IsLeft (m.may_leave disk) crashed → HoldWorld crashed w

  -- a turn that compacts leaves the image in the other file
  abbrev pub CompactsFiles : World → D → D → Option ℕ → Type 0
  CompactsFiles w old new None = Unit {0}
  CompactsFiles w old new (Some file) = Compacts (m.seen old) (m.seen new) file w
