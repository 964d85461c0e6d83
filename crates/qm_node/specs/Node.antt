-- Where a node is in its course: what comes next, which call that makes, and what its answer leaves.
-- OpenVMS System Manager's Manual, Setting Up and Maintaining Queues, on symbionts. This site's own: STEP, and that a node goes
-- on until nothing is left to do.
use Rattle.std.specs.Prelude.{◌≡◌, ◌∷◌, ℕ, Bool, true, false, List, [], drop, slice_get, Option, None, Some, IsSome, Result, Ok, Err}
use Rattle.std.specs.Io.KnownBytes.{Appends}
use Rattle.qm_history.specs.Common.{Refusal, Duty, Report, Scans, UserLine, steps_asked}
use Rattle.qm_kinds.specs.declared.refusal.Refusal.TheVariants.{NumbersSpent}
use Rattle.qm_model.specs.Kept.{KeptRun, KeptRuns, known, next_kept, with_duties, without_steps}
use Rattle.qm_history.specs.declared.call.Answer.{Answer}
use Rattle.qm_history.specs.declared.call.Answer.TheVariants as answer
use Rattle.qm_history.specs.declared.call.Call.TheVariants as call
use Rattle.qm_history.specs.Course.{NodeState, NextTurn, ALine, AStep, AFetch, ALeave, NoTurn, behind_fetch, behind_line, behind_step, next_at, own_stage}
use Rattle.qm_history.specs.Course as course
use Rattle.qm_script.specs.ClusterLines.{user_line_view}
use Rattle.qm_symb.specs.Device.{Meaning}
use Rattle.qm_node.specs.declared.course.Asked.{Asked}
use Rattle.qm_node.specs.declared.course.Next.{Next}
use Rattle.qm_node.specs.declared.course.Next.TheVariants.{Line, Step, Fetch, Leave}
use Rattle.qm_node.specs.declared.course.Stage.{Stage}
use Rattle.qm_node.specs.declared.course.Stage.TheVariants as stage
use Rattle.qm_node.specs.Duties.{AreLearnable}
use Rattle.qm_node.specs.Steps.{NextSteps}
use Rattle.qm_line.specs.Asked.{line_with}

-- where a node is in its course, and the report of the step that it made, until that is answered
pub record HeldNode : Type 0 where
  pub state : NodeState
  pub made : Option Report

abbrev pub stage_view : Stage → course.Stage
stage_view stage.Reading = course.Reading
stage_view stage.Fetching = course.Fetching
stage_view stage.Working = course.Working
stage_view stage.Leaving = course.Leaving
stage_view stage.Over = course.Over

-- this comes next, or nothing does
abbrev pub IsTurn : NextTurn → Option Next → Type 0
IsTurn (ALine l lines) (Some (Line line)) = l ≡ user_line_view line.now
IsTurn (AStep run others) (Some (Step number)) = run ≡ number
IsTurn AFetch (Some Fetch) = Unit {0}
IsTurn ALeave (Some Leave) = Unit {0}
IsTurn NoTurn None = Unit {0}
IsTurn turn next = ⊥

-- this comes next by whatever round begins so
abbrev pub IsTurnBy : Option ℕ → (List ℕ → NextTurn) → Option Next → Type 0
IsTurnBy first comes turn = (round : List ℕ) → slice_get round 0 ≡ first → IsTurn (comes round) turn

-- this comes next in the node, where it is live, or where it isn't
pub record ComesNext (n : NodeState) (next : Next) : Type 0 where
  pub live : Bool
  pub is : IsTurn (next_at live n n.stage) (Some next)

-- a step can be made where the run that steps next is kept
abbrev pub CanBeMade : NodeState → Next → Type 0
CanBeMade n (Step run) = IsSome (next_kept n.kept)
CanBeMade n next = Unit {0}

-- the duties that an answer shows, if it shows some
abbrev pub duties_in : Answer → Option (List Duty)
duties_in (answer.Duties took moment duties) = Some duties
duties_in replied = None

-- the answer tells that nothing more can be recorded
abbrev pub is_spent : Refusal → Bool
is_spent NumbersSpent = true
is_spent refusal = false

abbrev pub ends_recording : Answer → Bool
ends_recording (answer.Full took need cap) = true
ends_recording (answer.Refused took refusal) = is_spent refusal
ends_recording replied = false

-- the runs that a node keeps behind a line that was answered so
abbrev pub kept_heard : ℕ → KeptRuns → Option ℕ → Answer → KeptRuns
kept_heard turns kept (Some steps) (answer.Duties took moment duties) = with_duties turns kept steps duties
kept_heard turns kept steps replied = without_steps kept

-- the runs that it keeps behind a fetch of its own, and what it is about then
abbrev pub kept_fetched : ℕ → KeptRuns → Answer → KeptRuns
kept_fetched turns kept (answer.Duties took moment duties) = with_duties turns kept 0 duties
kept_fetched turns kept replied = kept

abbrev pub stage_fetched : ℕ → KeptRuns → Answer → course.Stage
stage_fetched turns kept (answer.Duties took moment duties) = course.stage_for (with_duties turns kept 0 duties).round
stage_fetched turns kept replied = course.Leaving

-- an answer that shows duties shows some that can be learned
abbrev pub CanBeHeard : Answer → Type 0
CanBeHeard (answer.Duties took moment duties) = AreLearnable duties
CanBeHeard replied = Unit {0}

-- the clock told one moment, that of the call
abbrev pub TellsOne : {E : Type 0} → Option (List ℕ) → Option (List ℕ) → Result Asked E → Type 0
TellsOne old new (Ok asked) = Appends old new (asked.moment ∷ [])
TellsOne old new (Err end) = (moment : ℕ) × Appends old new (moment ∷ [])

module _ {D : Type 0} (m : Meaning D) (begun : Scans) where
  -- This is the call of what comes next, where the node has begun these listings. A line is read at the call's moment; a report is
  -- of a step of the run that steps next, which is made; nothing else changes.
  abbrev pub IsCallOf : Next → NodeState → Asked → HeldNode → D → D → Type 0
  IsCallOf (Line line) n asked new before after =
      (asked.call ≡ call.Line line.now.number (line_with (user_line_view line.now) asked.moment begun (known n.kept)))
      × (new ≡ record { state = n; made = None }) × (after ≡ before)
  IsCallOf (Step run) n asked new before after =
      (told : Report) × (asked.call ≡ call.Report run told) × NextSteps m n.kept told before after × (new ≡ record { state = n; made = Some told })
  IsCallOf Fetch n asked new before after =
      (asked.call ≡ call.Fetch (known n.kept)) × (new ≡ record { state = n; made = None }) × (after ≡ before)
  IsCallOf Leave n asked new before after = (asked.call ≡ call.Leave) × (new ≡ record { state = n; made = None }) × (after ≡ before)

-- a report is to be told where a step was made, and only there
abbrev pub IsMadeFor : Next → Option Report → Type 0
IsMadeFor (Step run) made = IsSome made
IsMadeFor next made = made ≡ None

-- what the node keeps behind the answer of a step's report
pub record HearsReport (old : HeldNode) (replied : Answer) (new : HeldNode) : Type 0 where
  pub run : KeptRun
  pub told : Report
  pub stepped : next_kept old.state.kept ≡ Some run
  pub made : old.made ≡ Some told
  pub leaves : new ≡ record { state = behind_step old.state run (drop 1 old.state.kept.round) told replied; made = None }

-- what the node keeps behind the answer of a line, the first one that was left
abbrev pub node_behind_line : ℕ → NodeState → UserLine → Answer → HeldNode
node_behind_line turns n l replied =
    record { state = behind_line turns n (drop 1 n.lines) (steps_asked l.line.sort l.line.text) replied; made = None }

-- what it keeps behind the answer of a fetch of its own
abbrev pub node_behind_fetch : ℕ → NodeState → Answer → HeldNode
node_behind_fetch turns n replied = record { state = behind_fetch turns (record n { stage = own_stage n.stage }) replied; made = None }

-- What the node keeps behind the answer of what came next, where so many turns of its own were before that.
abbrev pub Hears : ℕ → Next → HeldNode → Answer → HeldNode → Type 0
Hears turns (Line line) old replied new = new ≡ node_behind_line turns old.state (user_line_view line.now) replied
Hears turns (Step run) old replied new = HearsReport old replied new
Hears turns Fetch old replied new = new ≡ node_behind_fetch turns old.state replied
Hears turns Leave old replied new = new ≡ record { state = record old.state { stage = course.Over }; made = None }
