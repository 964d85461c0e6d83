-- How far a node has come: the state that its turns and steps have led to, from which its course goes on.
-- OpenVMS System Manager's Manual, Setting Up and Maintaining Queues, on symbionts.
use Rattle.std.specs.Prelude.{◌≡◌, ◌⊎◌, ℕ, Bool, true, false, List, [], ◌∷◌, ◌++◌, Option, None, Contains}
use Rattle.std.specs.List.{AllByRecursion}
use Rattle.qm_model.specs.Common.{Input, KeptRun, known, report_told}
use Rattle.qm_kinds.specs.declared.input.Input.TheVariants as input
use Rattle.qm_history.specs.declared.call.Call.{Call}
use Rattle.qm_history.specs.declared.call.Call.TheVariants as call
use Rattle.qm_history.specs.declared.turn.Why.TheVariants as why
use Rattle.qm_history.specs.declared.event.Event.{Event}
use Rattle.qm_history.specs.declared.event.Event.TheVariants as event
use Rattle.qm_history.specs.declared.turn.Turn.{Turn}
use Rattle.qm_history.specs.declared.world.World.{World}
use Rattle.qm_history.specs.Calls.{input_of}
use Rattle.qm_history.specs.Course.{Begun, Follows, IsBrokenOff, IsStepOf, MadeStep, NodeState, NextTurn, ALine, AStep, AFetch, ALeave, NoTurn, Whole, call_of_line, is_live_behind, next_at, next_run}
use Rattle.qm_history.specs.Script.{UserLine}
use Rattle.qm_history.specs.Turn.{IsTurnOf, IsCutShort}
use Rattle.qm_history.specs.Visits.{Visit}

-- the takeover stands, and that is all
abbrev pub IsTookAlone : List Event → Type 0
IsTookAlone [] = ⊥
IsTookAlone (event.Took node moment epoch gone up may kept ∷ []) = Unit {0}
IsTookAlone (e ∷ events) = ⊥

-- the role of manager is all that is asked for
abbrev pub is_for_role : Input → Bool
is_for_role (input.TakeManager on) = true
is_for_role asked = false

module _ (read : UserLine → ℕ → List Visit → List ℕ → Input) where
  -- From a state, and live or not, these turns and steps lead to another one. Each turn was served whole.
  abbrev pub Reaches : NodeState → List Visit → Bool → List Visit → List MadeStep → NodeState → Bool → Type 0
  Reaches n earlier live [] steps then then_live = (steps ≡ []) × (then ≡ n) × (then_live ≡ live)
  Reaches n earlier live (v ∷ others) steps then then_live =
      Follows read Whole None n earlier steps v others (λ after left. Reaches after (earlier ++ v ∷ []) (is_live_behind v) others left then then_live) (next_at live n n.stage)

  -- memory ran out behind a takeover that stands, and the call asked for more than that
  abbrev pub IsCutBehindTakeover : World → Call → Turn → Type 0
  IsCutBehindTakeover w asked t = IsCutShort w asked t × IsTookAlone t.events × (is_for_role (input_of asked) ≡ false)

  -- the turn is cut short of the call that comes next
  abbrev pub IsCutNext : NodeState → List Visit → List MadeStep → Visit → NextTurn → Type 0
  IsCutNext n earlier steps v (ALine l lines) = IsCutBehindTakeover v.before (call_of_line read n earlier l v.turn) v.turn × (steps ≡ [])
  IsCutNext n earlier [] v (AStep run round) = ⊥
  IsCutNext n earlier (m ∷ steps) v (AStep run round) =
      IsStepOf n run m × IsCutBehindTakeover v.before (call.Report run (report_told m.run m.end)) v.turn × (steps ≡ [])
  IsCutNext n earlier steps v AFetch = IsCutBehindTakeover v.before (call.Fetch (known n.kept)) v.turn × (steps ≡ [])
  IsCutNext n earlier steps v ALeave = ⊥
  IsCutNext n earlier steps v NoTurn = ⊥

  -- the turns before the last one lead to a state, and the last one is cut short of the call that comes next there
  abbrev pub IsCutAtEnd : NodeState → List Visit → Bool → List Visit → List MadeStep → Type 0
  IsCutAtEnd n earlier live [] steps = ⊥
  IsCutAtEnd n earlier live (v ∷ []) steps = IsCutNext n earlier steps v (next_at live n n.stage)
  IsCutAtEnd n earlier live (v ∷ next ∷ others) steps =
      Follows read Whole None n earlier steps v (next ∷ others) (λ after left. IsCutAtEnd after (earlier ++ v ∷ []) (is_live_behind v) (next ∷ others) left) (next_at live n n.stage)

  -- the state that a course has reached which was only begun, and the run within whose step it broke off, if it did
  abbrev pub HasReached : Option KeptRun → NodeState → List Visit → Bool → List Visit → List MadeStep → Type 0
  HasReached broken n earlier live visits steps =
      (then : NodeState) × (then_live : Bool) × Reaches n earlier live visits steps then then_live × IsBrokenOff Begun (next_run then (next_at then_live then then.stage)) broken

  -- the turn is of the call that reports this step, served whole or cut short behind its takeover
  abbrev pub IsReportOf : MadeStep → Visit → Type 0
  IsReportOf m v =
      IsTurnOf v.before (call.Report m.run.run (report_told m.run m.end)) v.turn
      ⊎ IsCutShort v.before (call.Report m.run.run (report_told m.run m.end)) v.turn

  -- each report among these turns is of one of these steps
  abbrev pub ReportSteps : List Visit → List MadeStep → Type 0
  ReportSteps visits steps = AllByRecursion (λ (v : Visit). v.turn.why ≡ why.Report → (m : MadeStep) × Contains steps m × IsReportOf m v) visits
