-- A node that goes where no manager elsewhere records it.
use Rattle.std.proofs.Common.{◌≡◌, ℕ, ◌<◌, Bool, true, false, cond, List, [], ◌∷◌, length, refl, sym, ◌∙◌, ap, subst, arith, Option, None, Some, ◌==◌, ◌&&◌, not, slice_set}
use Rattle.std.specs.Option.{option_map_or}
use Rattle.std.proofs.lemmas.Bool.Decides.{nat_tests}
use Rattle.qm_disk.specs.Disk.{CrashState, Meaning, IsLeft}
use Rattle.qm_history.specs.Common.{Input, acting, node_at, plain, input_of, IsFromOutside, unless_of, without, takes_over, is_live, system_in}
use Rattle.qm_kinds.specs.declared.input.Input.TheVariants as input
use Rattle.qm_kinds.specs.declared.reply.Act.TheVariants as act
use Rattle.qm_store.specs.Recorded.{Recorded}
use Rattle.qm_store.proofs.Moving.{left_at_rest}
use Rattle.qm_acting.specs.Standing.{standing_of, disk_of}
use Rattle.qm_acting.specs.Files.{files_disk}
use Rattle.qm_acting.specs.declared.files.Files.{Files}
use Rattle.qm_acting.specs.declared.manager.Manager.{Manager}
use Rattle.qm_history.specs.declared.call.Answer.TheVariants as answer
use Rattle.qm_history.specs.declared.call.Call.{Call}
use Rattle.qm_history.specs.declared.call.Call.TheVariants as call
use Rattle.qm_history.specs.declared.event.Event.TheVariants as event
use Rattle.qm_history.specs.declared.world.Role.{Role}
use Rattle.qm_history.specs.declared.world.World.{World}
use Rattle.qm_history.specs.Computed.{goes}
use Rattle.qm_history.specs.Turn.{IsLeft as IsLeftBy, IsOwn, IsStopped, Nothing, has_other_manager, is_down}
use Rattle.qm_chest.specs.declared.members.Members.{Members}
use Rattle.qm_chest.specs.declared.chest.State.{State}
use Rattle.qm_chest.specs.declared.work.Work.TheVariants.{Down}
use Rattle.qm_chest.specs.declared.place.Place.{Place}
use Rattle.qm_chest.specs.At.{IsStateAt, state_disk}
use Rattle.qm_chest.specs.Work.{IsUp}
use Rattle.qm_chest.specs.Holding.{MayHold, SomeHold, AllHold}
use Rattle.qm_chest.specs.Parts.{Part}
use Rattle.qm_chest.specs.Whole.{IsServedAs, goes_by, is_leave}
use Rattle.qm_chest.proofs.Holding.{SiteFilesAreAccepted}
use Rattle.qm_chest.proofs.Whole.{work_still, one_served, own_served}

-- ---- the files hold the same without the node

pub may_stay : (cap : ℕ) (w : World) (node : ℕ) (place : Option Place) (r : Recorded) → MayHold cap w place r → MayHold cap (without w node) place r
may_stay cap w node place r may = record { log = may.log; found = may.found; site = may.site; cap_is = may.cap_is; fits = may.fits; epoch = may.epoch; recorded = may.recorded }

some_stay : (cap : ℕ) (w : World) (node : ℕ) (place : Option Place) (files : CrashState) → SomeHold (MayHold cap w place) files → SomeHold (MayHold cap (without w node) place) files
some_stay cap w node place files some = record { recorded = some.recorded; holds = some.holds; is = may_stay cap w node place some.recorded some.is }

all_stay : {D : Type 0} (m : Meaning D) (cap : ℕ) (w : World) (node : ℕ) (place : Option Place) (disk : D) → AllHold m (MayHold cap w place) disk → AllHold m (MayHold cap (without w node) place) disk
all_stay m cap w node place disk all = record {
  reads = some_stay cap w node place (m.seen disk) all.reads;
  crash = λ crashed left. some_stay cap w node place crashed (all.crash crashed left);
}

-- what a manager's files hold is all that they may hold
pub up_holds : {D : Type 0} (m : Meaning D) (cap : ℕ) (w : World) (manager : Manager D) (node : ℕ) → IsUp m cap w manager node → AllHold m (MayHold cap w None) (disk_of manager)
up_holds m cap w manager node up = record {
  reads = record { recorded = (standing_of manager).recorded; holds = up.at_rest.holds; is = up.may };
  crash = λ crashed left. record { recorded = (standing_of manager).recorded; holds = left_at_rest m (standing_of manager).recorded (disk_of manager) up.at_rest crashed left; is = up.may };
}

same_test : (n : ℕ) → (n == n) ≡ true
same_test n = grind (arith, nat_tests)

-- ---- which manager is left

pub own_role : (node epoch : ℕ) (o : Option Role) → o ≡ Some (record { node = node; epoch = epoch }) → unless_of node o ≡ None
own_role node epoch o is =
    let role : Role = record { node = node; epoch = epoch } in
    ap (unless_of node) is ∙ ap (λ (b : Bool). cond b None (Some role)) (same_test node)

pub no_role : (node : ℕ) (o : Option Role) → o ≡ None → unless_of node o ≡ None
no_role node o is = ap (unless_of node) is

pub own_is_no_other : (node epoch : ℕ) (o : Option Role) → o ≡ Some (record { node = node; epoch = epoch }) → option_map_or (λ (role : Role). not (role.node == node)) o false ≡ false
own_is_no_other node epoch o is = ap (λ (x : Option Role). option_map_or (λ (role : Role). not (role.node == node)) x false) is ∙ ap not (same_test node)

pub none_is_no_other : (node : ℕ) (o : Option Role) → o ≡ None → option_map_or (λ (role : Role). not (role.node == node)) o false ≡ false
none_is_no_other node o is = ap (λ (x : Option Role). option_map_or (λ (role : Role). not (role.node == node)) x false) is

-- ---- the call

module _ (accepted : SiteFilesAreAccepted) {D : Type 0} (m : Meaning D) (only_now : (disk : D) (crashed : CrashState) → m.left_since disk (m.moment disk) crashed → IsLeft (m.may_leave disk) crashed)
    (cap : ℕ) (w : World) (node now : ℕ) (there : node < length (system_in w).nodes) (live : is_live w node ≡ true) (state : State D) (at : IsStateAt m cap w state)
    (files : Files D) (place : Option Place) (same : files_disk files ≡ state_disk state) (holds : AllHold m (MayHold cap w place) (files_disk files)) (alone : unless_of node w.manager ≡ None)
    (no_other : has_other_manager w node ≡ false) (members : Members) (names : members.names.items ≡ state.members.names.items) (lives : members.live.items ≡ slice_set state.members.live.items node false)
    (held : members.held.items ≡ state.members.held.items) (greatest : members.greatest ≡ state.members.greatest) (name : List ℕ) (named : name ≡ node_at node (system_in w).nodes)
  where
    abbrev new : State D
    new = record { members = members; work = Down files place }

    at_without : IsStateAt m cap (without w node) new
    at_without = record {
      members = record {
        names = at.members.names ∙ sym names;
        live = lives ∙ ap (λ (l : List Bool). slice_set l node false) at.members.live;
        held = held ∙ at.members.held;
        greatest = greatest ∙ at.members.greatest;
      };
      work = record { none = alone; holds = all_stay m cap w node place (files_disk files) holds };
      small = at.small;
    }

    up_is : (asked : Call) → input_of asked ≡ input.StopNode → is_down w node (input_of asked) ≡ false
    up_is asked is = ap (λ (i : Input). is_down w node i) is ∙ ap (λ (b : Bool). not b && true) live

    stop_own : (asked : Call) → is_leave asked ≡ false → IsOwn w node now asked Nothing input.StopNode (event.Stopped node ∷ [])
    stop_own (call.Line line what) stays = subst (λ (b : Bool). IsStopped w node (acting now (system_in w)) b (event.Stopped node ∷ [])) (sym no_other) refl
    stop_own (call.Fetch known) stays = subst (λ (b : Bool). IsStopped w node (acting now (system_in w)) b (event.Stopped node ∷ [])) (sym no_other) refl
    stop_own (call.Report run told) stays = subst (λ (b : Bool). IsStopped w node (acting now (system_in w)) b (event.Stopped node ∷ [])) (sym no_other) refl
    stop_own call.Leave stays = cc

    leave_own : (asked : Call) → is_leave asked ≡ true → IsOwn w node now asked Nothing input.StopNode (event.Left node ∷ [])
    leave_own (call.Line line what) goes = cc
    leave_own (call.Fetch known) goes = cc
    leave_own (call.Report run told) goes = cc
    leave_own call.Leave goes = subst (λ (b : Bool). IsLeftBy w node (acting now (system_in w)) b (event.Left node ∷ [])) (sym no_other) refl

    pub stopped : (asked : Call) → input_of asked ≡ input.StopNode → is_leave asked ≡ false
        → IsServedAs m cap w node now asked (state_disk state) new (event.Stopped node ∷ []) (answer.Done None now (plain (act.NodeStopped name)))
    stopped asked is stays =
        one_served m cap w node now asked there (subst IsFromOutside (sym is) tt) (event.Stopped node) (answer.Done None now (plain (act.NodeStopped name))) false (state_disk state) new refl
        (subst (λ (d : D). Part m None w now (input_of asked) false (event.Stopped node ∷ []) (state_disk state) d) (sym same)
        (work_still accepted m cap w only_now state.work at.work now (input_of asked) (event.Stopped node) live (λ room. refl) (λ room. tt)))
        (own_served m cap w node now asked there (subst IsFromOutside (sym is) tt) (event.Stopped node ∷ []) (up_is asked is) (ap (takes_over w) is)
        (subst (λ (i : Input). IsOwn w node now asked Nothing i (event.Stopped node ∷ [])) (sym is) (stop_own asked stays))) refl
        (ap (λ (n : List ℕ). answer.Done None now (plain (act.NodeStopped n))) named) at_without

    pub left : (asked : Call) → input_of asked ≡ input.StopNode → is_leave asked ≡ true
        → IsServedAs m cap w node now asked (state_disk state) new (event.Left node ∷ []) (answer.Done None now (plain (act.NodeStopped name)))
    left asked is goes =
        one_served m cap w node now asked there (subst IsFromOutside (sym is) tt) (event.Left node) (answer.Done None now (plain (act.NodeStopped name))) false (state_disk state) new refl
        (subst (λ (d : D). Part m None w now (input_of asked) false (event.Left node ∷ []) (state_disk state) d) (sym same)
        (work_still accepted m cap w only_now state.work at.work now (input_of asked) (event.Left node) live (λ room. refl) (λ room. tt)))
        (own_served m cap w node now asked there (subst IsFromOutside (sym is) tt) (event.Left node ∷ []) (up_is asked is) (ap (takes_over w) is)
        (subst (λ (i : Input). IsOwn w node now asked Nothing i (event.Left node ∷ [])) (sym is) (leave_own asked goes))) refl
        (ap (λ (n : List ℕ). answer.Done None now (plain (act.NodeStopped n))) named) at_without

    -- the same, by whether it leaves
    pub gone : (leaves : Bool) (asked : Call) → input_of asked ≡ input.StopNode → is_leave asked ≡ leaves
        → IsServedAs m cap w node now asked (state_disk state) new (goes_by node leaves ∷ []) (answer.Done None now (plain (act.NodeStopped name)))
    gone true asked is goes = left asked is goes
    gone false asked is goes = stopped asked is goes
