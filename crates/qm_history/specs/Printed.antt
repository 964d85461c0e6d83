-- When each block of a print job was handed over, whatever stops and restarts came between.
-- OpenVMS System Manager's Manual, Setting Up and Maintaining Queues, on jobs that restart at a checkpoint.
-- This site's own: marks and ends of runs that a script tells.
use Rattle.std.specs.Prelude.{◌≡◌, ℕ, ◌<◌, ◌≤◌, ◌==◌, Bool, true, false, ◌&&◌, ◌||◌, is_some, List, [], ◌∷◌, ◌++◌, length, drop, slice_get, Option, None, Some, IsNone, Contains}
use Rattle.std.specs.List.{AllByRecursion}
use Rattle.std.specs.Option.{option_map_or}
use Rattle.qm_model.specs.Common.{Entry, Input, Record, Body, System, Work, normal_status, entry_numbered, page_blocks, WentOn, report_told, after_record}
use Rattle.qm_kinds.specs.declared.entry.JobKind.TheVariants.{Print}
use Rattle.qm_kinds.specs.declared.record.Body.TheVariants as body
use Rattle.qm_kinds.specs.declared.request.Request.TheVariants as request
use Rattle.qm_kinds.specs.declared.work.Report.TheVariants as report
use Rattle.qm_model.specs.Reports.{begin, printed}
use Rattle.qm_history.specs.declared.event.Event.{Event}
use Rattle.qm_history.specs.declared.turn.Turn.{Turn}
use Rattle.qm_history.specs.declared.turn.Why.{Why}
use Rattle.qm_history.specs.declared.turn.Why.TheVariants as why
use Rattle.qm_history.specs.declared.world.World.{World}
use Rattle.qm_history.specs.Course.{Extent, IsCourse, MadeStep}
use Rattle.qm_history.specs.Legal.{after_turn, IsLegal}
use Rattle.qm_history.specs.Marks.{reporting, finds_running, names_entry}
use Rattle.qm_history.specs.Records.{record_of}
use Rattle.qm_history.specs.Script.{UserLine}
use Rattle.qm_history.specs.Step.{after_event}
use Rattle.qm_history.specs.Visits.{Visit}
use Rattle.qm_history.specs.World.{system_in, IsSound}

-- ---- what happened in a history

-- an event, with the world in which it came, and why its turn was made
pub record Happened : Type 0 where
  pub before : World
  pub because : Why
  pub event : Event

-- the events of a turn
abbrev pub events_happened : World → Why → List Event → List Happened
events_happened w because [] = []
events_happened w because (e ∷ events) = record { before = w; because = because; event = e } ∷ events_happened (after_event w e) because events

-- the events of a history
abbrev pub happened : World → List Turn → List Happened
happened w [] = []
happened w (t ∷ turns) = events_happened w t.why t.events ++ happened (after_turn w t) turns

-- ---- what was told of a job

-- the entry whose run a request reports
abbrev pub entry_reported : System → ℕ → ℕ → Body → Option Entry
entry_reported s moment node (body.Ask (request.Mark run value)) = reporting s moment node run
entry_reported s moment node (body.Ask (request.Done run status)) = reporting s moment node run
entry_reported s moment node other = None

-- the entry whose run a record reports
abbrev pub entry_of_record : System → Record → Option Entry
entry_of_record s r = entry_reported s r.moment r.node r.body

-- a line of a script asked for it
abbrev pub is_of_line : Why → Bool
is_of_line (why.Line line) = true
is_of_line why.Fetch = false
is_of_line why.Report = false
is_of_line why.Leave = false

-- a line told a mark or an end of the job's run, be the record there or in doubt
abbrev pub is_raw : ℕ → Happened → Bool
is_raw entry h = is_of_line h.because && option_map_or (λ (r : Record). names_entry entry (entry_of_record (system_in h.before) r)) (record_of h.event) false

-- a request gives the job a form or a name
abbrev pub changes_print : ℕ → Body → Bool
changes_print entry (body.Ask (request.SetEntry number change)) = number == entry && (is_some change.form || is_some change.name)
changes_print entry other = false

-- the event does
abbrev pub is_changed_by : ℕ → Happened → Bool
is_changed_by entry h = option_map_or (λ (r : Record). changes_print entry r.body) (record_of h.event) false

-- a record is a checkpoint of the job's run
abbrev pub is_checkpoint : ℕ → System → ℕ → ℕ → Body → Bool
is_checkpoint entry s moment node (body.Ask (request.Mark run value)) = finds_running entry (reporting s moment node run)
is_checkpoint entry s moment node other = false

-- one of these records is
abbrev pub has_checkpoint : ℕ → System → List Record → Bool
has_checkpoint entry s [] = false
has_checkpoint entry s (r ∷ records) = is_checkpoint entry s r.moment r.node r.body || has_checkpoint entry (after_record s r) records

-- the records of a log behind those of an earlier one
abbrev pub records_since : World → World → List Record
records_since earlier later = drop (length earlier.log) later.log

-- Symbionts alone told of the job's runs, and it got no form and no name once a checkpoint of it was recorded.
pub record IsLeftAlone (w : World) (turns : List Turn) (entry : ℕ) : Type 0 where
  pub no_raw : AllByRecursion (λ (h : Happened). is_raw entry h ≡ false) (happened w turns)
  pub unchanged :
      AllByRecursion (λ (h : Happened). is_changed_by entry h ≡ true → has_checkpoint entry (system_in w) (records_since w h.before) ≡ false) (happened w turns)

-- ---- blocks

-- the event records that a run ended with status 1, and finds its job running
abbrev pub EndsRun : ℕ → ℕ → ℕ → System → Option Record → Type 0
EndsRun node run entry s None = ⊥
EndsRun node run entry s (Some r) =
    (r.node ≡ node) × (r.body ≡ body.Ask (request.Done run normal_status)) × (finds_running entry (reporting s r.moment r.node run) ≡ true)

-- a node's symbiont told in this step that the job's run ended with status 1, and that was recorded
pub record EndsWell (w : World) (turns : List Turn) (steps : ℕ → List MadeStep) (entry node : ℕ) (m : MadeStep) : Type 0 where
  pub made : Contains (steps node) m
  pub of_job : m.run.work.entry ≡ entry
  pub print : m.run.work.kind ≡ Print
  pub went_on : m.end ≡ WentOn
  pub told : report_told m.run m.end ≡ report.Done normal_status
  pub when : Happened
  pub in_history : Contains (happened w turns) when
  pub of_symbiont : when.because ≡ why.Report
  pub recorded : EndsRun node m.run.run entry (system_in when.before) (record_of when.event)

-- how many blocks the mark says that the job had in the first world, or none where it wasn't there
abbrev pub printed_before : System → ℕ → MadeStep → ℕ
printed_before s entry m = option_map_or (λ (e : Entry). printed (length (page_blocks m.run.work)) e.mark) (entry_numbered entry s.entries) 0

-- a step of some node handed over this block of the job, which has so many before it
pub record Came (steps : ℕ → List MadeStep) (entry index : ℕ) (block : List ℕ) : Type 0 where
  pub node : ℕ
  pub step : MadeStep
  pub made : Contains (steps node) step
  pub of_job : step.run.work.entry ≡ entry
  pub went_on : step.end ≡ WentOn
  pub at : step.run.place.at ≡ index
  pub is_block : slice_get (page_blocks step.run.work) index ≡ Some block

-- one of these steps, of the same fetch, handed over this block
abbrev pub IsHandedOver : List MadeStep → Work → ℕ → Type 0
IsHandedOver steps work index = (m : MadeStep) × Contains steps m × (m.run.work ≡ work) × (m.end ≡ WentOn) × (m.run.place.at ≡ index)

-- before each step of a print run the blocks from the mark on with which it was fetched were handed over
abbrev pub AreHandedBehindMarks : List MadeStep → Type 0
AreHandedBehindMarks steps =
    AllByRecursion (λ (m : MadeStep). m.run.work.kind ≡ Print → (index : ℕ) → (begin m.run.work).at ≤ index → index < m.run.place.at → IsHandedOver steps m.run.work index) steps

-- a step of one node and one of another hand over the same block of a job: each stands behind the mark with which it was fetched,
-- the later one too
abbrev pub ComesAgainElsewhere : MadeStep → MadeStep → Type 0
ComesAgainElsewhere a b =
    a.run.work.kind ≡ Print → b.run.work.kind ≡ Print → a.run.work.entry ≡ b.run.work.entry → a.run.place.at ≡ b.run.place.at
    → ((begin a.run.work).at ≤ b.run.place.at) × ((begin b.run.work).at ≤ a.run.place.at)

-- How lines are read is a parameter of courses.
module _ (read : UserLine → ℕ → List Visit → List ℕ → Input) where
  -- the steps are those of a course of each node, whole or begun
  abbrev pub AreMade : World → List Turn → (ℕ → List MadeStep) → Type 0
  AreMade w turns steps =
      (node : ℕ) → (extent : Extent) × (lines : List UserLine) × (faults : ℕ) × (h : IsCourse read extent w turns node lines faults) × (steps node ≡ h.steps)

  -- In a legal history from a sound world in which nothing is in doubt, where the nodes made these steps, a job that was left
  -- alone, and whose run ended well, had each of its blocks handed over at least once, behind the mark that it had in the first
  -- world. A mark in doubt there would be one that no step of the history told.
  abbrev pub EachCame : World → List Turn → (ℕ → List MadeStep) → ℕ → Type 0
  EachCame w turns steps entry =
      IsSound w → IsNone w.doubt → IsLegal w turns → AreMade w turns steps → IsLeftAlone w turns entry
      → (node : ℕ) (m : MadeStep) → EndsWell w turns steps entry node m → (index : ℕ) (block : List ℕ)
      → printed_before (system_in w) entry m ≤ index → slice_get (page_blocks m.run.work) index ≡ Some block → Came steps entry index block
