-- The runs that a node keeps between its turns: which may step, and what fetches, steps and reports make of them.
-- OpenVMS System Manager's Manual, Setting Up and Maintaining Queues, on symbionts.
-- This site's own: that runs step in turn, a report each, and the statuses 44 and 1028.
use Rattle.std.specs.Prelude.{ℕ, ◌-◌, ◌==◌, Bool, true, false, not, ◌||◌, if◌then◌else◌, List, [], ◌∷◌, ◌++◌, map, filter, find, filter_map, drop, slice_get, Option, None, Some}
use Rattle.std.specs.Option.{option_map, option_map_or, option_and_then}
use Rattle.qm_kinds.specs.declared.work.Duty.{Duty}
use Rattle.qm_kinds.specs.declared.work.Place.{Place}
use Rattle.qm_kinds.specs.declared.work.Report.{Report}
use Rattle.qm_kinds.specs.declared.work.Report.TheVariants as report
use Rattle.qm_kinds.specs.declared.work.Work.{Work}
use Rattle.qm_model.specs.Ending.{aborted_status}
use Rattle.qm_model.specs.Reports.{begin, course, next_report}

-- A run that a node keeps: what it needs, how far it is, and what the last fetch said of it. Which fetch gave it is told by a
-- number, as whoever keeps the run numbers them.
pub record KeptRun : Type 0 where
  pub run : ℕ
  pub aborting : Bool
  pub paused : Bool
  pub work : Work
  pub place : Place
  pub fetched : ℕ

-- the runs that a node keeps, the numbers of those that may step, the next one first, and how many steps are left to a STEP
-- line
pub record KeptRuns : Type 0 where
  pub runs : List KeptRun
  pub round : List ℕ
  pub steps : ℕ

-- no run
abbrev pub no_runs : KeptRuns
no_runs = record { runs = []; round = []; steps = 0 }

-- the numbers of the runs
abbrev pub known : KeptRuns → List ℕ
known kept = map (λ (k : KeptRun). k.run) kept.runs

-- the run of a number
abbrev pub run_kept : ℕ → List KeptRun → Option KeptRun
run_kept run runs = find (λ (k : KeptRun). k.run == run) runs

-- a run as the fetch of this number shows it: what it needs is new, and it begins; or it goes on where it was
abbrev pub kept_of : ℕ → List KeptRun → Duty → Option Work → Option KeptRun
kept_of fetch runs d (Some work) =
    Some (record { run = d.run; aborting = d.aborting; paused = d.paused; work = work; place = begin work; fetched = fetch })
kept_of fetch runs d None =
    option_map (λ (k : KeptRun). record k { aborting = d.aborting; paused = d.paused }) (run_kept d.run runs)

-- the runs that are kept behind a fetch: those that it shows
abbrev pub kept_after : ℕ → List KeptRun → List Duty → List KeptRun
kept_after fetch runs duties = filter_map (λ (d : Duty). kept_of fetch runs d d.work) duties

-- an aborting run may step, and so may one whose queue isn't paused
abbrev pub may_step : KeptRun → Bool
may_step k = k.aborting || not k.paused

-- the runs that may step, in their order
abbrev pub round_of : List KeptRun → List ℕ
round_of runs = map (λ (k : KeptRun). k.run) (filter may_step runs)

-- what is kept behind the fetch of this number, which showed these duties, where so many steps may follow
abbrev pub with_duties : ℕ → KeptRuns → ℕ → List Duty → KeptRuns
with_duties fetch kept steps duties =
    let runs = kept_after fetch kept.runs duties in record { runs = runs; round = round_of runs; steps = steps }

-- no step is left
abbrev pub without_steps : KeptRuns → KeptRuns
without_steps kept = record kept { steps = 0 }

-- the run that steps next
abbrev pub next_kept : KeptRuns → Option KeptRun
next_kept kept = option_and_then (λ run. run_kept run kept.runs) (slice_get kept.round 0)

-- what comes of a step: its symbiont goes on to its next report, its device fails, or the run is cut short without it
pub data StepEnd : Type 0 where
  WentOn : StepEnd
  DeviceFailed : StepEnd
  CutShort : StepEnd

-- the status of a run whose device failed
abbrev pub device_fault_status : ℕ
device_fault_status = 1028

-- what is reported of a step
abbrev pub report_told : KeptRun → StepEnd → Report
report_told k WentOn = next_report (course k.work k.place)
report_told k DeviceFailed = report.Done device_fault_status
report_told k CutShort = report.Done aborted_status

-- a run that is to be cut short is, and any other isn't
abbrev pub IsEndOf : Bool → StepEnd → Type 0
IsEndOf true CutShort = Unit {0}
IsEndOf true WentOn = ⊥
IsEndOf true DeviceFailed = ⊥
IsEndOf false CutShort = ⊥
IsEndOf false WentOn = Unit {0}
IsEndOf false DeviceFailed = Unit {0}

-- the run of this number goes on from a place
abbrev pub moved_to : KeptRun → Place → KeptRun → KeptRun
moved_to stepped place k = if k.run == stepped.run then record stepped { place = place } else k

-- the runs without one
abbrev pub without_run : ℕ → List KeptRun → List KeptRun
without_run run runs = filter (λ (k : KeptRun). not (k.run == run)) runs

-- the run is known no more
abbrev pub forgotten : KeptRuns → KeptRun → List ℕ → KeptRuns
forgotten kept stepped others = record kept { runs = without_run stepped.run kept.runs; round = others }

-- behind a checkpoint the run goes on, behind the others of the round, or it is over
abbrev pub behind_mark : KeptRuns → KeptRun → List ℕ → Place → Bool → KeptRuns
behind_mark kept stepped others next true =
    record kept { runs = map (moved_to stepped next) kept.runs; round = others ++ stepped.run ∷ [] }
behind_mark kept stepped others next false = forgotten kept stepped others

-- Behind a report the run goes on where that is a checkpoint and it may go on. Any other run is forgotten.
abbrev pub behind_report : KeptRuns → KeptRun → List ℕ → Report → Bool → KeptRuns
behind_report kept stepped others (report.Mark value next) goes_on = behind_mark kept stepped others next goes_on
behind_report kept stepped others (report.Done status) goes_on = forgotten kept stepped others

-- behind a step of a run, where these are the others of the round, and behind its report
abbrev pub kept_behind : KeptRuns → KeptRun → List ℕ → Report → Bool → KeptRuns
kept_behind kept stepped others told goes_on =
    record (behind_report kept stepped others told goes_on) { steps = kept.steps - 1 }

-- behind a step of the next run, and behind its report
abbrev pub behind_next : KeptRuns → Report → Bool → KeptRuns
behind_next kept told goes_on =
    option_map_or (λ (k : KeptRun). kept_behind kept k (drop 1 kept.round) told goes_on) (next_kept kept) kept
