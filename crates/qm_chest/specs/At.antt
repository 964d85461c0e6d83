-- The chest at a world, and what a call does to it.
-- OpenVMS System Manager's Manual, Managing the Queue Manager and Queue Database, on the queue manager process and its files.
-- This site's own: turns, epochs, and the record in doubt.
use Rattle.std.specs.Prelude.{◌≡◌, ℕ, ◌+◌, ◌^◌, ◌<◌, ◌≤◌, IsTrue, IsOk, List, ◌++◌, length, map, option_to_list, Option}
use Rattle.qm_history.specs.Common.{Meaning, Input, Request, System, GREATEST_CAP, applied, IsLawful, IsForUsers, IsSound}
use Rattle.qm_kinds.specs.declared.input.Input.TheVariants as input
use Rattle.qm_record.specs.Spelling.{AreListsShort}
use Rattle.qm_acting.specs.Files.{AreSound}
use Rattle.qm_acting.specs.Standing.{standing_of, IsReady}
use Rattle.qm_history.specs.declared.call.Answer.{Answer}
use Rattle.qm_history.specs.declared.call.Call.{Call}
use Rattle.qm_history.specs.declared.turn.Turn.{Turn}
use Rattle.qm_history.specs.declared.world.World.{World}
use Rattle.qm_history.specs.Chest.{Adds, IsMadeFor, LeavesTurn, TellsRoom}
use Rattle.qm_history.specs.Serving.{TellsDisk, behind}
use Rattle.qm_chest.specs.Work.{work_disk, IsWorkAt}
use Rattle.qm_chest.specs.Members.{AreMembersOf}
use Rattle.qm_chest.specs.declared.chest.Chest.{Chest}
use Rattle.qm_chest.specs.declared.chest.State.{State}
use Rattle.qm_chest.specs.declared.work.Work.{Work}
use Rattle.qm_chest.specs.declared.work.Work.TheVariants.{Up, Down}

-- ---- the chest at a world

-- What the chest works with stands for a world of a site whose queue files have this cap.
pub record IsStateAt {D : Type 0} (m : Meaning D) (cap : ℕ) (w : World) (state : State D) : Type 0 where
  pub members : AreMembersOf w state.members
  pub work : IsWorkAt m cap w state.work
  pub small : cap ≤ GREATEST_CAP

-- The same of a chest, in a sound world whose epochs are so early that all turns that the chest can still keep find epochs that a
-- master can hold.
pub record IsAt {D : Type 0} (m : Meaning D) (cap : ℕ) (w : World) (chest : Chest D) : Type 0 where
  pub state : IsStateAt m cap w chest.state
  pub sound : IsSound w
  pub early : w.greatest ≤ 2 ^ 61 + length chest.turns.items

-- its device
abbrev pub state_disk : {D : Type 0} → State D → D
state_disk state = work_disk state.work

abbrev pub chest_disk : {D : Type 0} → Chest D → D
chest_disk chest = state_disk chest.state

-- the names of its nodes
abbrev pub chest_names : {D : Type 0} → Chest D → List (List ℕ)
chest_names chest = chest.state.members.names.items

-- the turns that were made on it
abbrev pub chest_turns : {D : Type 0} → Chest D → List Turn
chest_turns chest = chest.turns.items

-- ---- whatever the disks tell

-- a manager can be asked, of the nodes that are kept, of which one is its node; files that were read are as they were read
abbrev pub IsWorkOf : {D : Type 0} → Meaning D → List (List ℕ) → Work D → Type 0
IsWorkOf m names (Up manager node) = IsReady m manager × (map (λ n. n.name) (standing_of manager).system.nodes ≡ names) × (node < length names)
IsWorkOf m names (Down files place) = AreSound m files

-- So many turns are kept, of which each may have tried an epoch.
pub record IsSteady {D : Type 0} (m : Meaning D) (turns : ℕ) (state : State D) : Type 0 where
  pub work : IsWorkOf m state.members.names.items state.work
  pub epochs : state.members.greatest ≤ 2 ^ 62 + turns

-- A call can be served: what the chest keeps fits together, and where the disks tell, it stands for some world.
pub record IsServing {D : Type 0} (m : Meaning D) (chest : Chest D) : Type 0 where
  pub steady : IsSteady m (length chest.turns.items) chest.state
  pub stands : IsTrue m.tells → (cap : ℕ) × (w : World) × IsAt m cap w chest

-- ---- what can be asked for

-- In each system the request's names keep their rules, and where it is accepted its lists are short enough for a record.
pub record CanBeRecorded (node : ℕ) (asked : Request) : Type 0 where
  pub outside : IsForUsers asked
  pub names : (s : System) → node < length s.nodes → IsLawful s node asked
  pub short : (s : System) (moment : ℕ) → IsOk (applied s moment node asked) → AreListsShort asked

-- A node's call can ask for this. No compaction is made so far.
abbrev pub CanBeAskedFor : ℕ → Input → Type 0
CanBeAskedFor node (input.Ask asked) = CanBeRecorded node asked
CanBeAskedFor node (input.Show query) = Unit {0}
CanBeAskedFor node (input.Fetch known) = Unit {0}
CanBeAskedFor node input.Compact = ⊥
CanBeAskedFor node (input.TakeManager on) = Unit {0}
CanBeAskedFor node input.StartNode = Unit {0}
CanBeAskedFor node input.StopNode = Unit {0}
CanBeAskedFor node (input.Fault place kind) = Unit {0}

-- ---- what a call does

-- The call of this node at this reading left one turn more, of that node, moment and call, or none for a reason.
pub record LeavesOne (node now : ℕ) (asked : Call) (old new : List Turn) (told : Answer) : Type 0 where
  pub turn : Option Turn
  pub turns : new ≡ old ++ option_to_list turn
  pub made : IsMadeFor node now asked turn
  pub leaves : LeavesTurn old turn told
  pub tells : TellsDisk turn told

-- In a world for which the chest stood, the turn is one of the call with this answer, a crash leaves what it may within it, room is
-- told as it is, and the chest then stands for the world behind it.
pub record Serves {D : Type 0} (m : Meaning D) (cap : ℕ) (w : World) (node now : ℕ) (asked : Call) (old new : Chest D) (told : Answer) : Type 0 where
  pub one : LeavesOne node now asked old.turns.items new.turns.items told
  pub adds : Adds m w (chest_disk old) (chest_disk new) asked one.turn told
  pub room : TellsRoom m w (m.seen (chest_disk old)) asked one.turn
  pub at : IsAt m cap (behind w one.turn) new

-- no manager is up
abbrev pub IsWithout : {D : Type 0} → Work D → Type 0
IsWithout (Up manager node) = ⊥
IsWithout (Down files place) = Unit {0}
