-- The runs that are kept, each with the cursor of its symbiont.
use Rattle.std.specs.Prelude.{◌≡◌, ℕ, ◌==◌, Bool, false, if◌then◌else◌, List, [], ◌∷◌, map, slice_get, Option, None, Some, IfSome, IsSome}
use Rattle.std.specs.List.{All, AllByRecursion}
use Rattle.std.specs.Ordering.{nat_cmp}
use Rattle.qm_history.specs.Common.{Place, Report, Work, IsInOrder, KeptRun, KeptRuns, run_kept}
use Rattle.qm_kinds.specs.declared.work.Report.TheVariants.{Done, Mark}
use Rattle.qm_keyed.specs.Places.{StandsAt}
use Rattle.qm_symb.specs.Symbiont.{IsWithinLimits}
use Rattle.qm_node.specs.declared.row.Row.{Row}

-- a run without its cursor
abbrev pub bare : {C : Type 0} → Row C → KeptRun
bare row = record { run = row.run; aborting = row.aborting; paused = row.paused; work = row.work; place = row.place; fetched = row.fetched }

abbrev pub all_bare : {C : Type 0} → List (Row C) → List KeptRun
all_bare rows = map bare rows

-- what is kept, as callers see it
abbrev pub seen : {C : Type 0} → List (Row C) → List ℕ → ℕ → KeptRuns
seen rows round steps = record { runs = all_bare rows; round = round; steps = steps }

-- where a run goes on behind its report
abbrev pub place_behind : Report → Option Place
place_behind (Mark value next) = Some next
place_behind (Done status) = None

-- the run steps next
abbrev pub is_first : ℕ → List ℕ → Bool
is_first run [] = false
is_first run (next ∷ others) = run == next

-- Where the cursor of a run stands: at the run's place; or behind the report of the step that it made, while that isn't told;
-- or nowhere, where that is the run's end.
abbrev pub cursor_place : {C : Type 0} → Option Report → List ℕ → Row C → Option Place
cursor_place None round row = Some row.place
cursor_place (Some told) round row = if is_first row.run round then place_behind told else Some row.place

-- the work of a run can be carried out, and its cursor stands where it should
abbrev pub IsSound : {C : Type 0} → (Work → Place → C → Type 0) → Option Report → List ℕ → Row C → Type 0
IsSound stands made round row =
    IsWithinLimits row.work × IfSome (cursor_place made round row) (λ place. stands row.work place row.cursor)

-- no number stands twice
abbrev pub StandOnce : List ℕ → Type 0
StandOnce [] = Unit {0}
StandOnce (run ∷ others) = AllByRecursion (λ (other : ℕ). (other == run) ≡ false) others × StandOnce others

-- runs by number, each sound; those of the round are among them, each once; and a step was made only where one could step
pub record AreHeld {C : Type 0} (stands : Work → Place → C → Type 0) (rows : List (Row C)) (round : List ℕ) (made : Option Report)
    : Type 0
  where
    pub order : IsInOrder nat_cmp (λ (row : Row C). row.run) rows
    pub each : All (IsSound stands made round) rows
    pub kept : AllByRecursion (λ (run : ℕ). IsSome (run_kept run (all_bare rows))) round
    pub once : StandOnce round
    pub stepping : IfSome made (λ told. IsSome (slice_get round 0))

-- the rows in front of a step: no report is to be told
abbrev pub AreAtPlaces : {C : Type 0} → (Work → Place → C → Type 0) → List (Row C) → Type 0
AreAtPlaces stands rows = All (IsSound stands None []) rows

-- they stand by number, and no report is to be told
abbrev pub AreKept : {C : Type 0} → (Work → Place → C → Type 0) → List (Row C) → Type 0
AreKept stands rows = IsInOrder nat_cmp (λ row. row.run) rows × AreAtPlaces stands rows

-- the run that steps next, if one may, is among the rows
abbrev pub HasNext : {C : Type 0} → List (Row C) → List ℕ → Type 0
HasNext rows round = IfSome (slice_get round 0) (λ run. IsSome (run_kept run (all_bare rows)))

-- and stands there
abbrev pub NextStandsAt : {C : Type 0} → List (Row C) → List ℕ → ℕ → Type 0
NextStandsAt rows round place = IfSome (slice_get round 0) (λ run. StandsAt nat_cmp (λ row. row.run) run rows place)
