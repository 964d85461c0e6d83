-- What the devices of a node get.
-- OpenVMS System Manager's Manual, Setting Up and Maintaining Queues, on jobs that restart at a checkpoint.
use Rattle.std.specs.Prelude.{◌≡◌, ◌⊎◌, ℕ, ◌<◌, ◌≤◌, ◌==◌, Bool, ◌&&◌, if◌then◌else◌, List, [], ◌∷◌, ◌++◌, find, take, drop, slice_get, Option, None, Some, Contains}
use Rattle.std.specs.List.{AllByRecursion}
use Rattle.qm_model.specs.Common.{Entry, System, Duty, Work, run_number, work_of, page_blocks, begin, course, blocks_before_report, KeptRun, StepEnd, WentOn, DeviceFailed, CutShort, report_told}
use Rattle.qm_kinds.specs.declared.entry.JobKind.TheVariants.{Print}
use Rattle.qm_kinds.specs.declared.work.Report.TheVariants as report
use Rattle.qm_history.specs.declared.call.Answer.{Answer}
use Rattle.qm_history.specs.declared.call.Answer.TheVariants as answer
use Rattle.qm_history.specs.declared.event.Event.{Event}
use Rattle.qm_history.specs.declared.world.World.{World}
use Rattle.qm_history.specs.Course.{MadeStep, answered}
use Rattle.qm_history.specs.Step.{after_event}
use Rattle.qm_history.specs.Visits.{Visit}
use Rattle.qm_history.specs.World.{system_in}

-- ---- what steps hand over

-- the first ones of these blocks
abbrev pub AreFirst : List (List ℕ) → List (List ℕ) → Type 0
AreFirst blocks all = (n : ℕ) × (blocks ≡ take n all)

-- the blocks that a run hands over before its next report
abbrev pub blocks_next : KeptRun → List (List ℕ)
blocks_next k = blocks_before_report (course k.work k.place)

-- A step hands over the blocks before its report. One in which the device failed hands over the first ones of these, and one
-- that cuts its run short none.
abbrev pub HandsOver : KeptRun → StepEnd → List (List ℕ) → Type 0
HandsOver k WentOn blocks = blocks ≡ blocks_next k
HandsOver k DeviceFailed blocks = AreFirst blocks (blocks_next k)
HandsOver k CutShort blocks = blocks ≡ []

-- the blocks of steps, a list for each step
abbrev pub AreHanded : List MadeStep → List (List (List ℕ)) → Type 0
AreHanded [] [] = Unit {0}
AreHanded [] (blocks ∷ handed) = ⊥
AreHanded (m ∷ steps) [] = ⊥
AreHanded (m ∷ steps) (blocks ∷ handed) = HandsOver m.run m.end blocks × AreHanded steps handed

-- a step within which a course broke off, of which no more is known than of one whose device failed
abbrev pub broken_step : Option KeptRun → List MadeStep
broken_step None = []
broken_step (Some k) = record { run = k; end = DeviceFailed } ∷ []

-- the steps of a course, and the one within which it broke off
abbrev pub all_steps : List MadeStep → Option KeptRun → List MadeStep
all_steps steps broken = steps ++ broken_step broken

-- ---- stretches

-- the answer shows the run with this work
abbrev pub Gives : Answer → ℕ → Work → Type 0
Gives (answer.Duties took moment duties) run work = (d : Duty) × Contains duties d × (d.run ≡ run) × (d.work ≡ Some work)
Gives replied run work = ⊥

-- the fetch that gave the run to the node is one of these turns, and showed this work
abbrev pub IsGiven : List Visit → KeptRun → Type 0
IsGiven visits k = (v : Visit) × (slice_get visits k.fetched ≡ Some v) × Gives (answered v) k.run k.work

-- the world in which the last one of some events comes
abbrev pub world_at_last : World → List Event → World
world_at_last w [] = w
world_at_last w (e ∷ []) = w
world_at_last w (e ∷ next ∷ events) = world_at_last (after_event w e) (next ∷ events)

-- the system that a fetch shows
abbrev pub system_shown : Visit → System
system_shown v = system_in (world_at_last v.before v.turn.events)

-- the work is that of an entry of the system, as it is there, with the mark that was recorded last
abbrev pub IsWorkOf : System → ℕ → Work → Type 0
IsWorkOf s run work = (e : Entry) × Contains s.entries e × (run ≡ run_number e) × (work ≡ work_of s e)

-- the last step of a run, of steps of which the last one comes first
abbrev pub last_step : ℕ → List MadeStep → Option MadeStep
last_step run earlier = find (λ (m : MadeStep). m.run.run == run) earlier

-- the run was fetched behind that step
abbrev pub IsFetchedBehind : Option MadeStep → KeptRun → Type 0
IsFetchedBehind None k = Unit {0}
IsFetchedBehind (Some m) k = m.run.fetched < k.fetched

-- the run is where a step with a checkpoint left it, as the same fetch gave it
abbrev pub IsLeftBy : Option MadeStep → KeptRun → Type 0
IsLeftBy None k = ⊥
IsLeftBy (Some m) k =
    (m.run.work ≡ k.work) × (m.run.fetched ≡ k.fetched) × ((value : List ℕ) × (report_told m.run m.end ≡ report.Mark value k.place))

-- The run was fetched behind its last step, and is behind the mark with which it was fetched; or it is where that step left it.
abbrev pub IsInStretch : List MadeStep → KeptRun → Type 0
IsInStretch earlier k =
    (IsFetchedBehind (last_step k.run earlier) k × (k.place ≡ begin k.work)) ⊎ IsLeftBy (last_step k.run earlier) k

-- Steps come in stretches, one for each fetch that gave a run to the node: the first step of each begins behind the mark with
-- which the run was fetched, and each other one where the step of the run before it left a checkpoint. The earlier steps are
-- given, the last one first.
abbrev pub ComeInStretches : List MadeStep → List MadeStep → Type 0
ComeInStretches earlier [] = Unit {0}
ComeInStretches earlier (m ∷ steps) = IsInStretch earlier m.run × ComeInStretches (m ∷ earlier) steps

-- the same fetch gave both
abbrev pub is_one_stretch : KeptRun → KeptRun → Bool
is_one_stretch a b = a.run == b.run && a.fetched == b.fetched

-- the blocks of the stretch of a run
abbrev pub blocks_of_stretch : KeptRun → List MadeStep → List (List (List ℕ)) → List (List ℕ)
blocks_of_stretch k [] handed = []
blocks_of_stretch k (m ∷ steps) [] = []
blocks_of_stretch k (m ∷ steps) (blocks ∷ handed) = (if is_one_stretch m.run k then blocks else []) ++ blocks_of_stretch k steps handed

-- the blocks of a print job behind the mark with which it was fetched
abbrev pub blocks_behind_mark : KeptRun → List (List ℕ)
blocks_behind_mark k = drop (begin k.work).at (page_blocks k.work)

-- The first step hands over a block that the second one hands over again: then another fetch gave it, which is a later one
-- where both are steps of one run, and it stands behind the mark with which that one gave it.
abbrev pub ComesAgainBehindMark : KeptRun → KeptRun → Type 0
ComesAgainBehindMark first again =
    first.work.kind ≡ Print → again.work.kind ≡ Print → first.work.entry ≡ again.work.entry → first.place.at ≡ again.place.at
    → (first.run ≡ again.run → first.fetched < again.fetched) × ((begin again.work).at ≤ again.place.at)

-- a block of a job comes again only as another fetch gave it, and behind the mark with which that one gave it
abbrev pub ComeAgainBehindMarks : List MadeStep → Type 0
ComeAgainBehindMarks [] = Unit {0}
ComeAgainBehindMarks (m ∷ steps) =
    AllByRecursion (λ (again : MadeStep). ComesAgainBehindMark m.run again.run) steps × ComeAgainBehindMarks steps
