-- What is left of a run: by a crash, and at the devices.
use Rattle.std.specs.Prelude.{◌≡◌, ◌≢◌, ◌⊎◌, ℕ, List, [], ◌∷◌, ◌++◌, slice_get, Option, Some, Contains, IsTrue}
use Rattle.std.specs.List.{AllByRecursion}
use Rattle.qm_node.specs.Asking.{read_built}
use Rattle.qm_node.specs.Taken.{AreTaken}
use Rattle.qm_node.specs.Sides.{Side}
use Rattle.qm_chest.specs.Opening.{MayBegin}
use Rattle.qm_disk.specs.Disk.{CrashState, IsLeft, LeavesOnly, Meaning}
use Rattle.qm_history.specs.Blocks.{ComeInStretches, IsGiven, all_steps}
use Rattle.qm_history.specs.Common.{cluster, HoldIn, Extent, IsCourse, MadeStep, after_turns, UserLine, Starts, visits_of, IsSound, system_in, Record, system_of}
use Rattle.qm_history.specs.Happening.{acknowledged, events_of}
use Rattle.qm_history.specs.Leaving.{MayBeLeft, MayBeLeftBehind}
use Rattle.qm_history.specs.declared.event.Event.{Event}
use Rattle.qm_history.specs.declared.turn.Turn.{Turn}
use Rattle.qm_history.specs.declared.world.World.{World}
use Rattle.qm_serving.specs.Serving.{Outside}
use Rattle.qm_symb.specs.Device as symb
use Rattle.qm_program.specs.declared.outcome.End.{End}

-- the log has each record that was acknowledged in these turns
abbrev pub HasAcknowledged : List Turn → List Record → Type 0
HasAcknowledged turns log =
    (some : List Event) (e : Event) (others : List Event) (r : Record) → events_of turns ≡ some ++ e ∷ others → acknowledged e ≡ Some r → Contains log r

-- A program begins on these files, in a sound world, whose system is that of a log: one that may stand there, with each record that was
-- acknowledged in these turns.
pub record GoesOnFrom (MayStand : List Record → Type 0) (turns : List Turn) (files : CrashState) : Type 0 where
  pub log : List Record
  pub stands : MayStand log
  pub acknowledged : HasAcknowledged turns log
  pub world : World
  pub starts : Starts files world
  pub sound : IsSound world
  pub system : system_in world ≡ system_of log

-- So it does behind a crash within a turn, from a log that may be left within it.
abbrev pub GoesOnWithin : World → List Turn → Turn → CrashState → Type 0
GoesOnWithin w before t files = GoesOnFrom (MayBeLeft (after_turns w before) t) before files

-- So it does behind these turns, from their log, with or without the record that is in doubt then.
abbrev pub GoesOnBehind : World → List Turn → CrashState → Type 0
GoesOnBehind w turns files = GoesOnFrom (MayBeLeftBehind (after_turns w turns)) turns files

-- So it does behind a crash at some moment of these turns: within one of them, or behind the last one.
abbrev pub GoesOnIn : World → List Turn → CrashState → Type 0
GoesOnIn w turns files =
    ((before : List Turn) × (t : Turn) × (behind : List Turn) × (turns ≡ before ++ t ∷ behind) × GoesOnWithin w before t files) ⊎ GoesOnBehind w turns files

-- The devices of a node took the blocks of the steps of its course in these turns, and nothing else. A fetch among its turns gave each of
-- these steps its run, and they come in stretches: the first step of each begins behind the mark with which that fetch gave the run to the
-- node, and each other one where the step of the run before it left a checkpoint.
pub record TakesCourseInStretches {Y : Type 0} (y : symb.Meaning Y) (w : World) (turns : List Turn) (node : ℕ) (was now : Y) : Type 0 where
  pub extent : Extent
  pub lines : List UserLine
  pub faults : ℕ
  pub course : IsCourse read_built extent w turns node lines faults
  pub given : AllByRecursion (λ (m : MadeStep). IsGiven (visits_of node w turns) m.run) (all_steps course.steps course.broken)
  pub stretches : ComeInStretches [] (all_steps course.steps course.broken)
  pub taken : AreTaken y course.steps course.broken was now

-- So they did, or no turn was made, and they are as they were.
abbrev pub TakesInStretches : {Y : Type 0} → symb.Meaning Y → World → List Turn → ℕ → Y → Y → Type 0
TakesInStretches y w turns node was now = ((turns ≡ []) × (was ≡ now)) ⊎ TakesCourseInStretches y w turns node was now

-- ---- laws of a way to run, by what it leaves of what a source had left, with these turns, what was outside and is there, and the end
module _ {D Y : Type 0} (m : Meaning D) (runs : Option (List ℕ) → List Turn → Outside D Y → Outside D Y → End → Type 0) where
  -- A crash at any moment leaves what it might leave before; or the files then hold a log that may be left at some moment of the turns.
  abbrev pub CrashesAreOfMoments : Type 0
  CrashesAreOfMoments = (left : Option (List ℕ)) (turns : List Turn) (old new : Outside D Y) (end : End) (w : World)
      → runs left turns old new end → IsTrue m.tells → MayBegin m old.disk w
      → LeavesOnly m old.disk new.disk (λ crashed. IsLeft (m.may_leave old.disk) crashed ⊎ HoldIn crashed w turns)

  -- Behind a run that made turns a program goes on, on the files as they read and whatever a crash makes of them.
  abbrev pub ProgramsGoOnBehind : Type 0
  ProgramsGoOnBehind = (left : Option (List ℕ)) (turns : List Turn) (old new : Outside D Y) (end : End) (w : World)
      → runs left turns old new end → IsTrue m.tells → MayBegin m old.disk w → turns ≢ []
      → (files : CrashState) → (files ≡ m.seen new.disk) ⊎ IsLeft (m.may_leave new.disk) files → GoesOnBehind w turns files

  -- The devices of each node of the cluster took the blocks of the steps of its course, which come in stretches.
  abbrev pub DevicesTakeStretches : symb.Meaning Y → Type 0
  DevicesTakeStretches y = (left : Option (List ℕ)) (turns : List Turn) (old new : Outside D Y) (end : End) (w : World)
      → runs left turns old new end → IsTrue m.tells → MayBegin m old.disk w
      → (node : ℕ) (name : List ℕ) (was now : Side Y) → slice_get (cluster (system_in w)) node ≡ Some name
      → slice_get old.sides node ≡ Some was → slice_get new.sides node ≡ Some now → TakesInStretches y w turns node was.symbiont now.symbiont
