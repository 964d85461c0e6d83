-- What a chest stands for behind calls that are noted, as histories say it.
-- OpenVMS System Manager's Manual, Managing the Queue Manager and Queue Database, on the queue manager process and its files.
-- This site's own: the notes of turns.
use Rattle.std.specs.Prelude.{◌≡◌, ℕ, ◌+◌, ◌^◌, ◌<◌, Bool, true, false, if◌then◌else◌, is_some, IsTrue, List, [], ◌∷◌, Option, None, Some}
use Rattle.std.specs.List.{AllByRecursion}
use Rattle.qm_history.specs.Common.{CrashState, Meaning, TellsFaults, System, is_journal, tells_disk_fault, after_turn, after_turns, Starts}
use Rattle.qm_acting.specs.Standing.{standing_of}
use Rattle.qm_history.specs.declared.call.Answer.{Answer}
use Rattle.qm_history.specs.declared.call.Call.{Call}
use Rattle.qm_history.specs.declared.turn.Turn.{Turn}
use Rattle.qm_history.specs.declared.world.Role.{Role}
use Rattle.qm_history.specs.declared.world.World.{World}
use Rattle.qm_history.specs.Chest.{Chest as ChestTold, Grow, Note, Stands, is_unread}
use Rattle.qm_history.specs.Room.{Room, room_after_events}
use Rattle.qm_chest.specs.At.{IsAt, IsWithout, LeavesOne, Serves, chest_disk}
use Rattle.qm_chest.specs.declared.chest.Chest.{Chest}
use Rattle.qm_chest.specs.declared.work.Work.{Work}
use Rattle.qm_chest.specs.declared.work.Work.TheVariants.{Up, Down}

-- the manager that is up
abbrev pub role_at : {D : Type 0} → Work D → Option Role
role_at (Up manager node) = Some (record { node = node; epoch = (standing_of manager).recorded.says.epoch })
role_at (Down files place) = None

-- its image
abbrev pub image_at : {D : Type 0} → Work D → Option System
image_at (Up manager node) = Some (standing_of manager).system
image_at (Down files place) = None

-- whether a record is in doubt
abbrev pub doubts_at : {D : Type 0} → Work D → Bool
doubts_at (Up manager node) = false
doubts_at (Down files place) = is_some place

-- the chest as histories speak of it, where so many calls were told that a disk failed
abbrev pub chest_told : {D : Type 0} → Chest D → ℕ → ChestTold D
chest_told chest failed = record {
  disk = chest_disk chest;
  manager = role_at chest.state.work;
  image = image_at chest.state.work;
  greatest = chest.state.members.greatest;
  is_in_doubt = doubts_at chest.state.work;
  live = chest.state.members.live.items;
  held = chest.state.members.held.items;
  turns = chest.turns.items;
  failed = failed;
}

-- the world with which a program begins on these files, whose epochs are early
pub record StartsEarly (files : CrashState) (w : World) : Type 0 where
  pub starts : Starts files w
  pub early : starts.says.epoch < 2 ^ 61

-- the note of a call, and how many calls were told a fault with it
abbrev pub note_of : Call → Option Turn → Answer → Note
note_of asked turn told = record { asked = asked; turn = turn; unread = is_unread turn told }

abbrev pub failed_with : ℕ → Answer → ℕ
failed_with failed told = if is_journal told then failed + 1 else failed

-- no turn tells that a disk failed
abbrev pub AreQuiet : List Turn → Type 0
AreQuiet turns = AllByRecursion (λ (t : Turn). tells_disk_fault t.events ≡ false) turns

-- how far the files reach behind turns, where no disk failed
abbrev pub room_behind : World → Room → List Turn → Room
room_behind w room [] = room
room_behind w room (t ∷ turns) = room_behind (after_turn w t) (room_after_events w room t.events) turns

-- A call of a node that a chest has served, whatever the disks tell and where they do.
pub record HasServed {D : Type 0} (m : Meaning D) (cap node now : ℕ) (asked : Call) (old new : Chest D) (told : Answer) : Type 0 where
  pub one : LeavesOne node now asked old.turns.items new.turns.items told
  pub serves : IsTrue m.tells → (w : World) → IsAt m cap w old → Serves m cap w node now asked old new told
  pub faults : TellsFaults m (chest_disk old) (chest_disk new) (is_journal told ≡ true)
  pub down : is_journal told ≡ true → IsWithout new.state.work

-- The chest, which began in this world on a device as it was then, stands for the notes of its calls, and for the world behind its turns:
-- its files have the cap with which it began, and reach as far as the turns tell, as long as no disk failed.
pub record StandsSince {D : Type 0} (m : Meaning D) (cap : ℕ) (w : World) (began : D) (chest : Chest D) (failed : ℕ) (notes : List Note) : Type 0 where
  pub stands : Stands m w began (chest_told chest failed) notes
  pub at : IsTrue m.tells → IsAt m cap (after_turns w chest.turns.items) chest
  pub capped : (tells : IsTrue m.tells) → (stands.stands tells).starts.says.cap ≡ cap
  pub reaches : IsTrue m.tells → AreQuiet chest.turns.items
      → Grow m (m.seen began) (m.seen (chest_disk chest)) (λ room. room_behind w room chest.turns.items)
