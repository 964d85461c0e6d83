-- Which way a call goes, and what comes of it where no takeover comes first.
use Rattle.std.proofs.Common.{◌≡◌, ℕ, ◌<◌, Bool, true, false, List, [], ◌∷◌, length, refl, sym, ◌∙◌, ap, subst, arith, Option, None, Some, ◌&&◌, not, is_none, slice_get, slice_set, unwrap_or}
use Rattle.qm_disk.specs.Disk.{CrashState, Meaning, IsLeft}
use Rattle.qm_history.specs.Common.{Input, Refusal, node_at, plain, input_of, is_start, IsFromOutside, takes_over, IsOwn, Nothing, is_down, is_live, system_in}
use Rattle.qm_kinds.specs.declared.input.Input.TheVariants as input
use Rattle.qm_kinds.specs.declared.reply.Act.TheVariants as act
use Rattle.qm_kinds.specs.declared.refusal.Refusal.TheVariants as refused
use Rattle.qm_kinds.specs.declared.refusal.ParseKind.{ParseKind}
use Rattle.qm_acting.specs.Standing.{disk_of}
use Rattle.qm_acting.specs.Files.{files_disk, AreSound}
use Rattle.qm_acting.proofs.Spare.{keeps_at, keeps_same}
use Rattle.qm_acting.specs.declared.files.Files.{Files}
use Rattle.qm_acting.specs.declared.manager.Manager.{Manager}
use Rattle.qm_history.specs.declared.call.Answer.TheVariants as answer
use Rattle.qm_history.specs.declared.call.Call.{Call}
use Rattle.qm_history.specs.declared.event.Event.{Event}
use Rattle.qm_history.specs.declared.event.Event.TheVariants as event
use Rattle.qm_history.specs.declared.world.World.{World}
use Rattle.qm_chest.specs.declared.asking.Came.{Came}
use Rattle.qm_chest.specs.declared.members.Members.{Members}
use Rattle.qm_chest.specs.declared.work.Work.{Work}
use Rattle.qm_chest.specs.declared.work.Work.TheVariants.{Up, Down}
use Rattle.qm_chest.specs.declared.place.Place.{Place}
use Rattle.qm_chest.specs.At.{IsWorkOf, IsStateAt}
use Rattle.qm_chest.specs.Members.{AreMembersOf}
use Rattle.qm_chest.specs.Work.{IsWorkAt, IsDown, IsUp, work_disk, is_due, is_without}
use Rattle.qm_chest.specs.Holding.{AllHold, MayHold}
use Rattle.qm_chest.specs.Steps.{IsStep, IsToldStep, OwnComes, OwnComesTo}
use Rattle.qm_chest.specs.Whole.{AsksAlone, IsServedAs, IsToldBy, Leaves, both, goes_alone, goes_by}
use Rattle.qm_chest.proofs.Going.{gone, none_is_no_other, no_role, own_is_no_other, own_role, up_holds}
use Rattle.qm_chest.proofs.Holding.{SiteFilesAreAccepted}
use Rattle.qm_chest.proofs.Kept.{NodesKeepTheirNames, members_step}
use Rattle.qm_chest.proofs.Names.{name_there, node_within, one_name}
use Rattle.qm_chest.proofs.Whole.{node_down, not_read, short_served, step_served, step_simple}

-- ---- which way

module _ {D : Type 0} (m : Meaning D) (cap : ℕ) (w : World) where
  without_is : (work : Work D) → IsWorkAt m cap w work → is_without work ≡ is_none w.manager
  without_is (Up manager at) up = sym (ap is_none up.role)
  without_is (Down files place) down = sym (ap is_none down.none)

  -- a takeover comes first where the world says so
  pub due_is : (work : Work D) → IsWorkAt m cap w work → (what : Input) → is_due work what ≡ takes_over w what
  due_is work at (input.TakeManager on) = refl
  due_is work at input.StopNode = refl
  due_is work at (input.Fault place kind) = refl
  due_is work at (input.Ask asked) = without_is work at
  due_is work at (input.Show query) = without_is work at
  due_is work at (input.Fetch known) = without_is work at
  due_is work at input.Compact = without_is work at
  due_is work at input.StartNode = without_is work at

-- the node is down for the call where the world says so
pub down_there : (w : World) (members : Members) (node : ℕ) (what : Input) (down : Bool) → AreMembersOf w members → down ≡ (not (unwrap_or (slice_get members.live.items node) false) && not (is_start what)) → is_down w node what ≡ down
down_there w members node what down kept is = ap (λ (live : List Bool). not (unwrap_or (slice_get live node) false) && not (is_start what)) (sym kept.live) ∙ sym is

-- ---- a call that the manager makes its step of

module _ (accepted : SiteFilesAreAccepted) (names : NodesKeepTheirNames) {D : Type 0} (m : Meaning D) (only_now : (disk : D) (crashed : CrashState) → m.left_since disk (m.moment disk) crashed → IsLeft (m.may_leave disk) crashed)
    (cap : ℕ) (w : World) (manager : Manager D) (at node now : ℕ) (there : node < length (system_in w).nodes) (members : Members) (state : IsStateAt m cap w (record { members = members; work = Up manager at }))
    (what : Input) (asked : Call) (is : input_of asked ≡ what) (outside : IsFromOutside what) (up : is_down w node what ≡ false) (alone : takes_over w what ≡ false) (came : Came D)
  where
    own_at : (o : Option Event) → OwnComesTo m cap w node now now what Nothing None (disk_of manager) came o → IsToldStep None o came.answer
        → IsServedAs m cap w node now asked (disk_of manager) (record { members = members; work = came.work }) (both o None) came.answer
    own_at None short told =
        short_served m cap w node now asked there (subst IsFromOutside (sym is) outside) accepted only_now (record { members = members; work = Up manager at }) state came short
    own_at (Some e) comes told =
        let step = comes.0 in
        step_served m cap w node now asked there (subst IsFromOutside (sym is) outside) (disk_of manager) came members e (step_simple e told.0)
        (subst (λ (i : Input). IsStep m cap w now now i None (disk_of manager) came e) (sym is) step)
        (subst (λ (i : Input). IsOwn w node now asked Nothing i (e ∷ [])) (sym is) (comes.1 asked))
        (ap (λ (i : Input). is_down w node i) is ∙ up) (ap (takes_over w) is ∙ alone)
        (members_step names w e members told.0 step.part.comes.0 state.members) state.small

    pub own_serves : OwnComes m members manager at node now now what Nothing None came → IsToldStep None came.event came.answer
        → IsServedAs m cap w node now asked (disk_of manager) (record { members = members; work = came.work }) (both came.event None) came.answer
    own_serves comes told = own_at came.event (comes cap w state.small state.members state.work) told

-- ---- calls that are refused before a system is asked

module _ {D : Type 0} (m : Meaning D) (members : Members) (work : Work D) (of : IsWorkOf m members.names.items work) (node now : ℕ) (what : Input) (refusal : Refusal) where
  pub refused_leaves : Leaves m members work members (record { work = work; first = Some (event.Refused node now what refusal); second = None; answer = answer.Refused None refusal })
  refused_leaves = record {
    work = of;
    names = refl;
    rises = omega arith;
    leaves = record { faults = record { fault = λ told. cc; quiet = λ none. refl }; spare = λ tells. keeps_same m (work_disk work) };
    down = λ told. cc;
    told = (λ full. cc, λ hides. refl);
    duties = tt;
  }

module _ (accepted : SiteFilesAreAccepted) {D : Type 0} (m : Meaning D) (only_now : (disk : D) (crashed : CrashState) → m.left_since disk (m.moment disk) crashed → IsLeft (m.may_leave disk) crashed)
    (cap : ℕ) (w : World) (members : Members) (work : Work D) (state : IsStateAt m cap w (record { members = members; work = work })) (node now : ℕ) (there : node < length members.names.items) (asked : Call)
  where
    node_there : node < length (system_in w).nodes
    node_there = node_within (system_in w) members.names.items node state.members.names there

    pub down_serves : (what : Input) → input_of asked ≡ what → IsFromOutside what → is_down w node what ≡ true
        → IsServedAs m cap w node now asked (work_disk work) (record { members = members; work = work }) (event.Refused node now what refused.NodeDown ∷ []) (answer.Refused None refused.NodeDown)
    down_serves what is outside down =
        subst (λ (i : Input). IsServedAs m cap w node now asked (work_disk work) (record { members = members; work = work }) (event.Refused node now i refused.NodeDown ∷ []) (answer.Refused None refused.NodeDown)) is
        (node_down m cap w node now asked node_there (subst IsFromOutside (sym is) outside) accepted only_now (record { members = members; work = work }) state (ap (λ (i : Input). is_down w node i) is ∙ down))

    pub unread_serves : (place : ℕ) (kind : ParseKind) → input_of asked ≡ input.Fault place kind → is_down w node (input.Fault place kind) ≡ false
        → IsServedAs m cap w node now asked (work_disk work) (record { members = members; work = work }) (event.Refused node now (input.Fault place kind) (refused.ParseFault place kind) ∷ [])
        (answer.Refused None (refused.ParseFault place kind))
    unread_serves place kind is up =
        not_read m cap w node now asked node_there (subst IsFromOutside (sym is) tt) accepted only_now (record { members = members; work = work }) state place kind is (ap (λ (i : Input). is_down w node i) is ∙ up)

-- ---- a node that goes alone

live_of : (b : Bool) → (not b && true) ≡ false → b ≡ true
live_of true h = refl
live_of false h = cc

module _ {D : Type 0} (m : Meaning D) (old new : Members) (work : Work D) (names : new.names.items ≡ old.names.items) (greatest : new.greatest ≡ old.greatest) where
  pub alone_goes : (files : Files D) (place : Option Place) (node now : ℕ) (leaves : Bool) (name : List ℕ) → AreSound m files → files_disk files ≡ work_disk work → Leaves m old work new (goes_alone (Down files place) node now leaves name)
  alone_goes files place node now leaves name sound same = record {
    work = sound;
    names = names;
    rises = omega (arith, greatest);
    leaves = record { faults = record { fault = λ told. cc; quiet = λ none. ap m.faults same }; spare = λ tells. keeps_at m (work_disk work) (files_disk files) same };
    down = λ told. cc;
    told = told_by leaves;
    duties = tt;
  }
    where
      told_by : (b : Bool) → IsToldBy (goes_by node b ∷ []) (answer.Done None now (plain (act.NodeStopped name)))
      told_by true = (λ full. cc, λ hides. refl)
      told_by false = (λ full. cc, λ hides. refl)

module _ (accepted : SiteFilesAreAccepted) {D : Type 0} (m : Meaning D) (only_now : (disk : D) (crashed : CrashState) → m.left_since disk (m.moment disk) crashed → IsLeft (m.may_leave disk) crashed)
    (cap : ℕ) (w : World) (members after : Members) (work : Work D) (state : IsStateAt m cap w (record { members = members; work = work })) (node now : ℕ) (there : node < length members.names.items)
    (same : after.names.items ≡ members.names.items) (lives : after.live.items ≡ slice_set members.live.items node false) (held : after.held.items ≡ members.held.items) (greatest : after.greatest ≡ members.greatest)
    (leaves : Bool) (asked : Call) (asks : AsksAlone node input.StopNode leaves w asked) (files : Files D) (disk_is : files_disk files ≡ work_disk work)
    (name : List ℕ) (named : slice_get members.names.items node ≡ Some name)
  where
    node_within_w : node < length (system_in w).nodes
    node_within_w = node_within (system_in w) members.names.items node state.members.names there

    live : is_live w node ≡ true
    live = live_of (is_live w node) asks.2

    name_is : name ≡ node_at node (system_in w).nodes
    name_is =
        let found = name_there node (system_in w).nodes members.names.items state.members.names there in
        let one : ◌≡◌ {A = Option (List ℕ)} (Some name) (Some found.0) = sym named ∙ found.1 in
        one_name name found.0 one ∙ found.2

    abbrev Goes : Option Place → Type 0
    Goes place = IsServedAs m cap w node now asked (work_disk work) (record { members = after; work = Down files place }) (both (Some (goes_by node leaves)) None) (answer.Done None now (plain (act.NodeStopped name)))

    -- the manager's own node
    pub gone_up : (manager : Manager D) (at : ℕ) → IsUp m cap w manager at → disk_of manager ≡ work_disk work → at ≡ node → Goes None
    gone_up manager at up disk_of_is own =
        let role : w.manager ≡ Some (record { node = node; epoch = w.greatest }) = subst (λ (n : ℕ). w.manager ≡ Some (record { node = n; epoch = w.greatest })) own up.role in
        gone accepted m only_now cap w node now node_within_w live (record { members = members; work = work }) state files None disk_is
        (subst (AllHold m (MayHold cap w None)) (disk_of_is ∙ sym disk_is) (up_holds m cap w manager at up))
        (own_role node w.greatest w.manager role) (own_is_no_other node w.greatest w.manager role) after same lives held greatest name name_is leaves asked asks.0 asks.1

    -- no manager is up
    pub gone_down : (place : Option Place) → IsDown m cap w files place → Goes place
    gone_down place down =
        gone accepted m only_now cap w node now node_within_w live (record { members = members; work = work }) state files place disk_is down.holds
        (no_role node w.manager down.none) (none_is_no_other node w.manager down.none) after same lives held greatest name name_is leaves asked asks.0 asks.1
