-- What a node does: its lines in their order, the steps of its symbiont behind a STEP line, then fetches and steps of its own,
-- and at last its leave.
-- OpenVMS System Manager's Manual, Setting Up and Maintaining Queues, on symbionts. This site's own: STEP, and that a node
-- goes on until nothing is left to do.
use Rattle.std.specs.Prelude.{◌≡◌, ◌⊎◌, ◌≤◌, ℕ, zero, suc, Bool, true, false, List, [], ◌∷◌, ◌++◌, length, count_by, Option, None, Some}
use Rattle.qm_model.specs.Common.{Input, Act, Report}
use Rattle.qm_kinds.specs.declared.refusal.Refusal.TheVariants as refused
use Rattle.qm_kinds.specs.declared.reply.Act.TheVariants as act
use Rattle.qm_model.specs.Kept.{KeptRun, KeptRuns, StepEnd, WentOn, DeviceFailed, CutShort, IsEndOf, kept_behind, known, no_runs, report_told, run_kept, with_duties, without_steps}
use Rattle.qm_history.specs.declared.call.Answer.{Answer}
use Rattle.qm_history.specs.declared.call.Answer.TheVariants as answer
use Rattle.qm_history.specs.declared.call.Call.{Call}
use Rattle.qm_history.specs.declared.call.Call.TheVariants as call
use Rattle.qm_history.specs.declared.turn.Turn.{Turn}
use Rattle.qm_history.specs.declared.world.World.{World}
use Rattle.qm_history.specs.Answers.{answer_of}
use Rattle.qm_history.specs.Legal.{after_turn}
use Rattle.qm_history.specs.Script.{UserLine, steps_asked}
use Rattle.qm_history.specs.Turn.{IsTurnOf, IsCutShort}
use Rattle.qm_history.specs.Visits.{Visit, visits_of}
use Rattle.qm_history.specs.World.{is_live}

-- what a node is about: reading its lines, or, behind the last one, fetching, working, leaving, or nothing more
pub data Stage : Type 0 where
  Reading : Stage
  Fetching : Stage
  Working : Stage
  Leaving : Stage
  Over : Stage

-- where a node is: its stage, its lines that are left, and the runs that it keeps, whose fetches are told by the number of the
-- node's turns before each
pub record NodeState : Type 0 where
  pub stage : Stage
  pub lines : List UserLine
  pub kept : KeptRuns

-- a step that a node made for a run
pub record MadeStep : Type 0 where
  pub run : KeptRun
  pub end : StepEnd

-- the device failed in this step
abbrev pub has_failed : StepEnd → Bool
has_failed WentOn = false
has_failed DeviceFailed = true
has_failed CutShort = false

-- in how many steps the device failed
abbrev pub failed_steps : List MadeStep → ℕ
failed_steps steps = count_by (λ (m : MadeStep). has_failed m.end) steps

-- the checkpoint was recorded; an aborting run ends at its first report instead, whatever that says
abbrev pub is_marked : Act → Bool
is_marked (act.Marked run value) = true
is_marked other = false

-- whether the run goes on that reported a checkpoint: where its report was done, and recorded that
abbrev pub goes_on : Answer → Bool
goes_on (answer.Done took moment reply) = is_marked reply.act
goes_on replied = false

-- in a node's own turns an answer that nothing more can be recorded ends them
abbrev pub stage_behind : Stage → Answer → Stage
stage_behind Working (answer.Full took need cap) = Leaving
stage_behind Working (answer.Refused took refused.NumbersSpent) = Leaving
stage_behind stage replied = stage

-- The node behind a step and its report. A run whose checkpoint was recorded goes on; any other is forgotten.
abbrev pub behind_step : NodeState → KeptRun → List ℕ → Report → Answer → NodeState
behind_step n stepped others told replied =
    record n { stage = stage_behind n.stage replied; kept = kept_behind n.kept stepped others told (goes_on replied) }

-- the node behind a STEP line: steps may follow where duties were shown
abbrev pub behind_step_line : ℕ → NodeState → ℕ → Answer → NodeState
behind_step_line turns n steps (answer.Duties took moment duties) = record n { kept = with_duties turns n.kept steps duties }
behind_step_line turns n steps replied = record n { kept = without_steps n.kept }

-- the node behind a line
abbrev pub behind_line : ℕ → NodeState → List UserLine → Option ℕ → Answer → NodeState
behind_line turns n lines (Some steps) replied = behind_step_line turns (record n { lines = lines }) steps replied
behind_line turns n lines None replied = record n { lines = lines; kept = without_steps n.kept }

-- there is work where a run may step, and else the node leaves
abbrev pub stage_for : List ℕ → Stage
stage_for [] = Leaving
stage_for (run ∷ round) = Working

-- the node behind a fetch of its own
abbrev pub behind_fetch : ℕ → NodeState → Answer → NodeState
behind_fetch turns n (answer.Duties took moment duties) =
    let kept = with_duties turns n.kept 0 duties in record n { stage = stage_for kept.round; kept = kept }
behind_fetch turns n replied = record n { stage = Leaving }

-- what comes next
pub data NextTurn : Type 0 where
  ALine : UserLine → List UserLine → NextTurn
  AStep : ℕ → List ℕ → NextTurn
  AFetch : NextTurn
  ALeave : NextTurn
  NoTurn : NextTurn

-- the next line, and behind the last one a fetch of a node that is live
abbrev pub next_line : Bool → List UserLine → NextTurn
next_line live (line ∷ lines) = ALine line lines
next_line true [] = AFetch
next_line false [] = NoTurn

-- steps come before the next line, as many as a STEP line allows
abbrev pub next_reading : Bool → ℕ → List ℕ → List UserLine → NextTurn
next_reading live (suc steps) (run ∷ others) lines = AStep run others
next_reading live (suc steps) [] lines = next_line live lines
next_reading live zero round lines = next_line live lines

-- a step, or the next fetch
abbrev pub next_working : List ℕ → NextTurn
next_working [] = AFetch
next_working (run ∷ others) = AStep run others

-- what a node does next that is live or not
abbrev pub next_at : Bool → NodeState → Stage → NextTurn
next_at live n Reading = next_reading live n.kept.steps n.kept.round n.lines
next_at live n Fetching = AFetch
next_at live n Working = next_working n.kept.round
next_at live n Leaving = ALeave
next_at live n Over = NoTurn

-- behind its last line a node is fetching
abbrev pub own_stage : Stage → Stage
own_stage Reading = Fetching
own_stage stage = stage

-- a node at the beginning of its lines
abbrev pub at_first : List UserLine → NodeState
at_first lines = record { stage = Reading; lines = lines; kept = no_runs }

-- a course that was gone to its end, or as far as its thread came
pub data Extent : Type 0 where
  Whole : Extent
  Begun : Extent

-- nothing more is to come of a whole course
abbrev pub IsAtEnd : Extent → NextTurn → Type 0
IsAtEnd Whole next = next ≡ NoTurn
IsAtEnd Begun next = Unit {0}

-- the run that is to step next, if one is
abbrev pub next_run : NodeState → NextTurn → Option KeptRun
next_run n (AStep run round) = run_kept run n.kept.runs
next_run n (ALine line lines) = None
next_run n AFetch = None
next_run n ALeave = None
next_run n NoTurn = None

-- A course that was only begun may break off within a step: it was begun, and no turn told of it.
abbrev pub IsBrokenOff : Extent → Option KeptRun → Option KeptRun → Type 0
IsBrokenOff extent next None = Unit {0}
IsBrokenOff Whole next (Some k) = ⊥
IsBrokenOff Begun next (Some k) = (next ≡ Some k) × (k.aborting ≡ false)

-- the node is live behind this turn
abbrev pub is_live_behind : Visit → Bool
is_live_behind v = is_live (after_turn v.before v.turn) v.turn.node

-- what the node's call was answered
abbrev pub answered : Visit → Answer
answered v = answer_of v.before v.turn

-- the step is one of this run, which the node keeps, and ends as one of it can
abbrev pub IsStepOf : NodeState → ℕ → MadeStep → Type 0
IsStepOf n run m = (run_kept run n.kept.runs ≡ Some m.run) × IsEndOf m.run.aborting m.end

-- How a line is read is said where commands and item lists are: by its text and its user, the moment that the clock told, the
-- node's turns before it, which tell what listings it has begun, and, for STEP, the runs that it keeps.
module _ (read : UserLine → ℕ → List Visit → List ℕ → Input) where
  -- the turn served this call whole; or it is the last one of a course that was only begun, and was cut short
  abbrev pub ServesOrEnds : Extent → World → Call → Turn → List Visit → Type 0
  ServesOrEnds Whole w asked t others = IsTurnOf w asked t
  ServesOrEnds Begun w asked t others = IsTurnOf w asked t ⊎ (IsCutShort w asked t × (others ≡ []))

  -- the call of a line
  abbrev pub call_of_line : NodeState → List Visit → UserLine → Turn → Call
  call_of_line n earlier l t = call.Line l.line.number (read l t.moment earlier (known n.kept))

  -- From here on these turns are what the node does, and these are the steps that it makes between them. Where the course
  -- breaks off within a step, its run is given.
  module _ (extent : Extent) (broken : Option KeptRun) where
    -- what follows this turn, which is the one that comes next, where the node's course goes on by Rest
    abbrev pub Follows : NodeState → List Visit → List MadeStep → Visit → List Visit → (NodeState → List MadeStep → Type 0) → NextTurn → Type 0
    Follows n earlier steps v others Rest (ALine l lines) =
        ServesOrEnds extent v.before (call_of_line n earlier l v.turn) v.turn others
        × Rest (behind_line (length earlier) n lines (steps_asked l.line.sort l.line.text) (answered v)) steps
    Follows n earlier [] v others Rest (AStep run round) = ⊥
    Follows n earlier (m ∷ steps) v others Rest (AStep run round) =
        IsStepOf n run m
        × ServesOrEnds extent v.before (call.Report run (report_told m.run m.end)) v.turn others
        × Rest (behind_step n m.run round (report_told m.run m.end) (answered v)) steps
    Follows n earlier steps v others Rest AFetch =
        ServesOrEnds extent v.before (call.Fetch (known n.kept)) v.turn others
        × Rest (behind_fetch (length earlier) (record n { stage = own_stage n.stage }) (answered v)) steps
    Follows n earlier steps v others Rest ALeave =
        ServesOrEnds extent v.before call.Leave v.turn others × Rest (record n { stage = Over }) steps
    Follows n earlier steps v others Rest NoTurn = ⊥

    abbrev pub GoesOn : NodeState → List Visit → Bool → List Visit → List MadeStep → Type 0
    GoesOn n earlier live [] steps =
        IsAtEnd extent (next_at live n n.stage) × (steps ≡ []) × IsBrokenOff extent (next_run n (next_at live n n.stage)) broken
    GoesOn n earlier live (v ∷ others) steps =
        Follows n earlier steps v others (λ after left. GoesOn after (earlier ++ v ∷ []) (is_live_behind v) others left) (next_at live n n.stage)

  -- The turns of a node are a course of its lines, with these steps, and one more where it broke off within that. It begins with
  -- no run, and its device fails in at most so many steps.
  pub record IsCourse (extent : Extent) (start : World) (turns : List Turn) (node : ℕ) (lines : List UserLine) (faults : ℕ) : Type 0 where
    pub steps : List MadeStep
    pub broken : Option KeptRun
    pub turns_are : GoesOn extent broken (at_first lines) [] (is_live start node) (visits_of node start turns) steps
    pub few_faults : failed_steps steps ≤ faults
