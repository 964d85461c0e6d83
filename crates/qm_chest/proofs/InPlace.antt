-- A manager that makes a step where it is: what then holds of what the chest works with.
use Rattle.std.proofs.Common.{◌≡◌, ◌∙◌, ℕ, ◌<◌, ◌≤◌, arith, Bool, true, false, List, length, refl, sym, ap, subst, Option, None, Some, ◌&&◌, if◌then◌else◌, not, slice_get, unwrap_or, IsTrue}
use Rattle.qm_disk.specs.Disk.{CrashState, Meaning, IsLeft, IsQuiet}
use Rattle.qm_history.specs.Common.{Input, cluster, is_journal, Nothing, input_of, is_start, IsFromOutside, system_in}
use Rattle.qm_kinds.specs.declared.input.Input.TheVariants as input
use Rattle.qm_acting.specs.Spare.{KeepsSpare}
use Rattle.qm_acting.proofs.Spare.{keeps_at, keeps_same}
use Rattle.qm_acting.specs.Standing.{IsReady, Standing, disk_of, standing_of}
use Rattle.qm_acting.specs.declared.manager.Manager.{Manager}
use Rattle.qm_history.specs.declared.call.Call.{Call}
use Rattle.qm_history.specs.declared.call.Takeover.{Takeover}
use Rattle.qm_history.specs.declared.event.Event.{Event}
use Rattle.qm_history.specs.declared.world.World.{World}
use Rattle.qm_chest.specs.declared.answering.Step.{Step}
use Rattle.qm_chest.specs.declared.asking.Came.{Came}
use Rattle.qm_chest.specs.declared.members.Members.{Members}
use Rattle.qm_chest.specs.declared.chest.State.{State}
use Rattle.qm_chest.specs.declared.work.Work.{Work}
use Rattle.qm_chest.specs.declared.work.Work.TheVariants.{Up, Down}
use Rattle.qm_chest.specs.declared.wanted.Wanted.{Wanted}
use Rattle.qm_chest.specs.At.{IsWorkOf, IsStateAt}
use Rattle.qm_chest.specs.Work.{work_disk, is_due, makes_step}
use Rattle.qm_chest.specs.Serving.{CanServe, Serving, is_step_alone, most_events}
use Rattle.qm_chest.specs.Steps.{Behind, HasManager, IsBehind, IsOfNodes, IsOwnStep, IsSameManager, IsToldStep, LeavesAsked, LeavesOwn, LeavesStep, OwnComes, OwnStep, StepIs, came_of, is_in_doubt}
use Rattle.qm_chest.specs.Whole.{IsServedAs, both}
use Rattle.qm_chest.proofs.Holding.{SiteFilesAreAccepted}
use Rattle.qm_chest.proofs.Kept.{NodesKeepTheirNames, alone_leaves, work_of}
use Rattle.qm_chest.proofs.Names.{node_within, outside_of}
use Rattle.qm_chest.proofs.Ways.{down_there, due_is, own_serves}

module _ {D : Type 0} (manager : Manager D) (at : ℕ) where
  pub behind_holds : (P : Work D → Type 0) (doubt : Bool) (work : Work D) → IsBehind manager at doubt work → Behind P manager at doubt → P work
  behind_holds P true work gone holds = subst P (sym gone.is) (holds gone.closed gone.disk)
  behind_holds P false work is holds = subst P (sym is) holds

  pub behind_so : (P Q : Work D → Type 0) → ((work : Work D) → P work → Q work) → (doubt : Bool) → Behind P manager at doubt → Behind Q manager at doubt
  behind_so P Q so true holds = λ closed same. so _ (holds closed same)
  behind_so P Q so false holds = so _ holds

  -- where nothing is in doubt the manager is there
  pub behind_up : (P : Work D → Type 0) (doubt : Bool) → doubt ≡ false → P (Up manager at) → Behind P manager at doubt
  behind_up P doubt is holds = subst (λ (b : Bool). Behind P manager at b) (sym is) holds

  -- the step of a manager that was moved
  pub step_holds : (P : Came D → Type 0) (step : Step) (came : Came D) → came ≡ came_of step came.work → IsBehind manager at (is_in_doubt step.event) came.work → StepIs P step manager at → P came
  step_holds P step came is behind holds = subst P (sym is) (behind_holds (λ work. P (came_of step work)) (is_in_doubt step.event) came.work behind holds)

  pub step_so : (P Q : Came D → Type 0) → ((came : Came D) → P came → Q came) → (step : Step) → StepIs P step manager at → StepIs Q step manager at
  step_so P Q so step holds = behind_so (λ work. P (came_of step work)) (λ work. Q (came_of step work)) (λ work. so (came_of step work)) (is_in_doubt step.event) holds

  pub step_up : (P : Came D → Type 0) (step : Step) → is_in_doubt step.event ≡ false → P (came_of step (Up manager at)) → StepIs P step manager at
  step_up P step is holds = behind_up (λ work. P (came_of step work)) (is_in_doubt step.event) is holds

-- ---- what a step leaves

module _ {D : Type 0} (m : Meaning D) where
  -- no disk failed
  pub left_quiet : (Of : Work D → Type 0) (took : Option Takeover) (old : D) (came : Came D) → Of came.work → IsQuiet m old (work_disk came.work) → (IsTrue m.tells → KeepsSpare m old (work_disk came.work))
      → is_journal came.answer ≡ false → IsToldStep took came.event came.answer → LeavesStep m Of took old came
  left_quiet Of took old came of quiet spare silent told = record {
    work = of;
    leaves = record { faults = record { fault = λ is. let never : false ≡ true = sym silent ∙ is in cc; quiet = λ not. quiet }; spare = spare };
    down = λ is. let never : false ≡ true = sym silent ∙ is in cc;
    told = told;
  }

  -- a request that isn't done leaves the manager as it was
  pub left_still : (took : Option Takeover) (old new : Manager D) (at : ℕ) (step : Step) → is_in_doubt step.event ≡ false → IsReady m new → standing_of new ≡ standing_of old → disk_of new ≡ disk_of old
      → is_journal step.answer ≡ false → IsToldStep took step.event step.answer → StepIs (LeavesAsked m took old at) step new at
  left_still took old new at step sure ready same same_disk silent told =
      step_up new at (LeavesAsked m took old at) step sure
      (left_quiet (IsSameManager m old at) took (disk_of old) (came_of step (Up new at)) (record { ready = ready; nodes = (ap (λ (s : Standing). cluster s.system) same, refl) })
      (ap m.faults same_disk) (λ tells. keeps_at m (disk_of old) (disk_of new) same_disk) silent told)

  -- a manager of the nodes that are kept is still one of them
  pub left_own : (members : Members) (took : Option Takeover) (manager : Manager D) (at : ℕ) → IsWorkOf m members.names.items (Up manager at) → (came : Came D)
      → LeavesAsked m took manager at came → LeavesOwn m members took manager came
  left_own members took manager at of came left = record {
    work = work_of m members.names.items at came.work of.2 left.work.ready (subst (λ (l : List (List ℕ)). IsOfNodes l at came.work) of.1 left.work.nodes);
    leaves = left.leaves;
    down = left.down;
    told = left.told;
  }

  -- a listing or a fetch only looks
  pub left_looking : (members : Members) (took : Option Takeover) (manager : Manager D) (at : ℕ) → IsWorkOf m members.names.items (Up manager at) → (step : Step) → is_in_doubt step.event ≡ false
      → is_journal step.answer ≡ false → IsToldStep took step.event step.answer → StepIs (LeavesOwn m members took manager) step manager at
  left_looking members took manager at of step sure silent told =
      step_up manager at (LeavesOwn m members took manager) step sure
      (left_quiet (IsWorkOf m members.names.items) took (disk_of manager) (came_of step (Up manager at)) of refl (λ tells. keeps_same m (disk_of manager)) silent told)

-- ---- which calls are such steps

-- a call that is a step of the manager that is up: no takeover comes before it, and no node starts
pub record IsOwn {D : Type 0} (work : Work D) (what : Input) : Type 0 where
  pub up : HasManager work
  pub own : IsOwnStep what
  pub alone : is_due work what ≡ false
  pub starts : is_start what ≡ false

pub makes_own : {D : Type 0} (work : Work D) (what : Input) → makes_step work what ≡ true → IsOwn work what
makes_own (Up manager at) (input.Ask asked) is = record { up = tt; own = tt; alone = refl; starts = refl }
makes_own (Up manager at) (input.Show query) is = record { up = tt; own = tt; alone = refl; starts = refl }
makes_own (Up manager at) (input.Fetch known) is = record { up = tt; own = tt; alone = refl; starts = refl }
makes_own (Up manager at) input.Compact is = cc
makes_own (Up manager at) (input.TakeManager on) is = cc
makes_own (Up manager at) input.StartNode is = cc
makes_own (Up manager at) input.StopNode is = cc
makes_own (Up manager at) (input.Fault place kind) is = cc
makes_own (Down files place) (input.Ask asked) is = cc
makes_own (Down files place) (input.Show query) is = cc
makes_own (Down files place) (input.Fetch known) is = cc
makes_own (Down files place) input.Compact is = cc
makes_own (Down files place) (input.TakeManager on) is = cc
makes_own (Down files place) input.StartNode is = cc
makes_own (Down files place) input.StopNode is = cc
makes_own (Down files place) (input.Fault place' kind) is = cc

both_true : (a b : Bool) → (a && b) ≡ true → (a ≡ true) × (b ≡ true)
both_true true b is = (refl, is)
both_true false b is = cc

-- such a call is of a live node
pub step_alone : {D : Type 0} (wanted : Wanted) (state : State D) → is_step_alone wanted state ≡ true
    → (unwrap_or (slice_get state.members.live.items wanted.maker.node) false ≡ true) × (makes_step state.work wanted.input ≡ true)
step_alone wanted state is = both_true (unwrap_or (slice_get state.members.live.items wanted.maker.node) false) (makes_step state.work wanted.input) is

module _ (accepted : SiteFilesAreAccepted) (names : NodesKeepTheirNames) {D : Type 0} (m : Meaning D) (only_now : (disk : D) (crashed : CrashState) → m.left_since disk (m.moment disk) crashed → IsLeft (m.may_leave disk) crashed)
    (cap : ℕ) (w : World) (node now : ℕ) (members : Members) (within : node < length members.names.items) (live : unwrap_or (slice_get members.live.items node) false ≡ true)
    (what : Input) (asked : Call) (is : input_of asked ≡ what) (outside : IsFromOutside what) (came : Came D)
  where
    step_serves : (manager : Manager D) (at : ℕ) → IsStateAt m cap w (record { members = members; work = Up manager at }) → is_due (Up manager at) what ≡ false → OwnComes m members manager at node now now what Nothing None came
        → IsToldStep None came.event came.answer
        → IsServedAs m cap w node now asked (disk_of manager) (record { members = members; work = came.work }) (both came.event None) came.answer
    step_serves manager at state due comes told =
        own_serves accepted names m only_now cap w manager at node now (node_within (system_in w) members.names.items node state.members.names within) members state what asked is outside
        (down_there w members node what false state.members (ap (λ (b : Bool). not b && not (is_start what)) (sym live)))
        (sym (due_is m cap w (Up manager at) state.work what) ∙ due) came comes told

    pub made_step : (work : Work D) (manager : Manager D) (at : ℕ) → work ≡ Up manager at → makes_step work what ≡ true → IsStateAt m cap w (record { members = members; work = work })
        → OwnComes m members manager at node now now what Nothing None came → IsToldStep None came.event came.answer
        → IsServedAs m cap w node now asked (work_disk work) (record { members = members; work = came.work }) (both came.event None) came.answer
    made_step work manager at work_is makes state comes told =
        subst (λ (d : Work D). IsServedAs m cap w node now asked (work_disk d) (record { members = members; work = came.work }) (both came.event None) came.answer) (sym work_is)
        (step_serves manager at (subst (λ (d : Work D). IsStateAt m cap w (record { members = members; work = d })) work_is state)
        (subst (λ (d : Work D). is_due d what ≡ false) work_is (makes_own work what makes).alone) comes told)

-- a step that is the whole call, behind which the chest works with this
module _ (accepted : SiteFilesAreAccepted) (names : NodesKeepTheirNames) {D : Type 0} (m : Meaning D) (only_now : (disk : D) (crashed : CrashState) → m.left_since disk (m.moment disk) crashed → IsLeft (m.may_leave disk) crashed)
    (wanted : Wanted) (old : State D) (can : CanServe m wanted old) (is_step : is_step_alone wanted old ≡ true) (manager : Manager D) (at : ℕ) (work_is : old.work ≡ Up manager at)
  where
    pub manager_of : IsWorkOf m old.members.names.items (Up manager at)
    manager_of = subst (λ (d : Work D). IsWorkOf m old.members.names.items d) work_is can.work

    pub own_input : IsOwnStep wanted.input
    own_input = (makes_own old.work wanted.input (step_alone wanted old is_step).1).own

    pub step_serving : (step : Step) (behind : Manager D) (after : Work D) → IsBehind behind at (is_in_doubt step.event) after → StepIs (LeavesOwn m old.members None manager) step behind at
        → StepIs (OwnStep m old.members manager at wanted.maker.node wanted.maker.moment wanted.input None) step behind at
        → Serving m wanted old (record { members = old.members; work = after }) (record { first = step.event; second = None; answer = step.answer })
    step_serving step behind after is leaves comes =
        let came = came_of step after in
        let left : LeavesOwn m old.members None manager came = step_holds behind at (LeavesOwn m old.members None manager) step came refl is leaves in
        let goes : OwnStep m old.members manager at wanted.maker.node wanted.maker.moment wanted.input None came =
        step_holds behind at (OwnStep m old.members manager at wanted.maker.node wanted.maker.moment wanted.input None) step came refl is comes in
        let alone = step_alone wanted old is_step in
        record {
          leaves = alone_leaves m old.members old.members old.work came refl refl
              (subst (λ (d : D). LeavesStep m (IsWorkOf m old.members.names.items) None d came) (ap work_disk (sym work_is)) left);
          serves = λ tells cap w asked state early asks.
              made_step accepted names m only_now cap w wanted.maker.node wanted.maker.moment old.members can.there alone.0
              wanted.input asked asks.0 (outside_of wanted.maker.node wanted.input can.can) came old.work manager at work_is alone.1 state (goes tells wanted.maker.moment Nothing) left.told;
        }

-- ---- how many events a call has

pub one_event : (first second : Option Event) → second ≡ None → length (both first second) ≤ 1
one_event first second none = subst (λ (o : Option Event). length (both first o) ≤ 1) (sym none) (alone first)
  where
    alone : (o : Option Event) → length (both o None) ≤ 1
    alone None = omega arith
    alone (Some e) = omega arith

pub two_events : (first second : Option Event) → length (both first second) ≤ 2
two_events None second = omega arith
two_events (Some e) None = omega arith
two_events (Some e) (Some f) = omega arith

pub most_one : {D : Type 0} (wanted : Wanted) (state : State D) → is_step_alone wanted state ≡ true → most_events wanted state ≡ 1
most_one wanted state is = ap (λ (b : Bool). if b then 1 else 2) is

pub most_two : {D : Type 0} (wanted : Wanted) (state : State D) → is_step_alone wanted state ≡ false → most_events wanted state ≡ 2
most_two wanted state is = ap (λ (b : Bool). if b then 1 else 2) is
