-- A node that stops or leaves while a manager is up elsewhere, which records its loss.
use Rattle.std.proofs.Common.{◌≡◌, ◌≢◌, inl, inr, ℕ, ◌<◌, Bool, true, false, List, [], ◌∷◌, length, refl, sym, ◌∙◌, ap, subst, arith, Option, None, Some, Result, ◌==◌, ◌&&◌, ◌||◌, not, IsOk, slice_set}
use Rattle.std.specs.Option.{option_map_or}
use Rattle.std.proofs.lemmas.Bool.Decides.{nat_tests}
use Rattle.qm_disk.specs.Disk.{CrashState, Meaning, IsLeft}
use Rattle.qm_history.specs.Common.{Input, Refusal, Request, acting, applied, Accepted, node_at, input_of, why_of, IsFromOutside, is_journal, after_event, without, takes_over, is_live, system_in}
use Rattle.qm_kinds.specs.declared.input.Input.TheVariants as input
use Rattle.qm_kinds.specs.declared.request.Request.TheVariants as request
use Rattle.qm_acting.specs.Standing.{disk_of}
use Rattle.qm_acting.specs.declared.manager.Manager.{Manager}
use Rattle.qm_history.specs.declared.call.Call.{Call}
use Rattle.qm_history.specs.declared.call.Call.TheVariants as call
use Rattle.qm_history.specs.declared.event.Event.{Event}
use Rattle.qm_history.specs.declared.event.Event.TheVariants as event
use Rattle.qm_history.specs.declared.world.Role.{Role}
use Rattle.qm_history.specs.declared.world.World.{World}
use Rattle.qm_history.specs.Turn.{IsDecided, IsGoing, IsLost, IsOwn, IsServed, IsStopped, Nothing, has_other_manager, is_down, loss_of, IsLeft as IsLeftBy}
use Rattle.qm_chest.specs.declared.asking.Came.{Came}
use Rattle.qm_chest.specs.declared.members.Members.{Members}
use Rattle.qm_chest.specs.declared.work.Work.TheVariants.{Up}
use Rattle.qm_chest.specs.At.{IsStateAt}
use Rattle.qm_chest.specs.Members.{AreMembersOf}
use Rattle.qm_chest.specs.Work.{IsUp, work_disk}
use Rattle.qm_chest.specs.Parts.{Part}
use Rattle.qm_chest.specs.Steps.{Comes, ComesTo, IsShort, IsStep, goes_then, is_full, is_recorded, is_step}
use Rattle.qm_chest.specs.Whole.{IsServedAs, both, goes_by, is_leave}
use Rattle.qm_chest.proofs.Deciding.{full_alone, recorded_step}
use Rattle.qm_chest.proofs.Holding.{SiteFilesAreAccepted}
use Rattle.qm_chest.proofs.Kept.{NodesKeepTheirNames, members_step}
use Rattle.qm_chest.proofs.Moves.{change_is, goes_and, other_stays, set_off, up_without}
use Rattle.qm_chest.proofs.Relived.{relive, work_back, full_stop_back, short_back, without_is}
use Rattle.qm_chest.proofs.Whole.{one_served, own_served, short_served, two_served}

-- ---- the events of a node that goes where a manager elsewhere is told

apart : (a b : ℕ) → a ≢ b → not (a == b) ≡ true
apart a b differ = grind (arith, nat_tests)

has_other : (node epoch at : ℕ) (o : Option Role) → o ≡ Some (record { node = at; epoch = epoch }) → at ≢ node → option_map_or (λ (role : Role). not (role.node == node)) o false ≡ true
has_other node epoch at o is differ = ap (λ (x : Option Role). option_map_or (λ (role : Role). not (role.node == node)) x false) is ∙ apart at node differ

-- what the events of a node that goes may be, by whether it leaves
abbrev GoesBy : World → ℕ → ℕ → Bool → Bool → List Event → Type 0
GoesBy w node moment other true events = IsLeftBy w node moment other events
GoesBy w node moment other false events = IsStopped w node moment other events

going : (w : World) (node moment : ℕ) (asked : Call) (leaves : Bool) (events : List Event) → is_leave asked ≡ leaves → GoesBy w node moment (has_other_manager w node) leaves events → IsGoing w node moment asked events
going w node moment call.Leave true events is goes = goes
going w node moment call.Leave false events is goes = cc
going w node moment (call.Line line asked) false events is goes = goes
going w node moment (call.Line line asked) true events is goes = cc
going w node moment (call.Fetch known) false events is goes = goes
going w node moment (call.Fetch known) true events is goes = cc
going w node moment (call.Report run told) false events is goes = goes
going w node moment (call.Report run told) true events is goes = cc

lost : (w : World) (node moment : ℕ) (leaves : Bool) (e : Event) → IsLost (goes_by node leaves) w node moment (goes_by node leaves ∷ e ∷ []) → GoesBy w node moment true leaves (goes_by node leaves ∷ e ∷ [])
lost w node moment true e change = inl change
lost w node moment false e change = inl change

recorded_or_full : (leaves : Bool) (e : Event) → goes_then leaves (Some e) ≡ true → is_recorded (Some e) ≡ false → (leaves ≡ true) × (is_full (Some e) ≡ true)
recorded_or_full leaves e goes recorded = both_true leaves (is_full (Some e)) (ap (λ (b : Bool). b || leaves && is_full (Some e)) (sym recorded) ∙ goes)
  where
    both_true : (a b : Bool) → (a && b) ≡ true → (a ≡ true) × (b ≡ true)
    both_true true true is = (refl, refl)
    both_true true false is = cc
    both_true false b is = cc

module _ (accepted : SiteFilesAreAccepted) (names : NodesKeepTheirNames) {D : Type 0} (m : Meaning D) (only_now : (disk : D) (crashed : CrashState) → m.left_since disk (m.moment disk) crashed → IsLeft (m.may_leave disk) crashed)
    (cap : ℕ) (w : World) (manager : Manager D) (at node now : ℕ) (there : node < length (system_in w).nodes) (members : Members) (state : IsStateAt m cap w (record { members = members; work = Up manager at }))
    (asked : Call) (is : input_of asked ≡ input.StopNode) (leaves : Bool) (leaves_is : is_leave asked ≡ leaves) (elsewhere : at ≢ node) (down_not : is_down w node input.StopNode ≡ false)
  where
    abbrev old : D
    old = disk_of manager

    up : IsUp m cap w manager at
    up = state.work

    outside : IsFromOutside (input_of asked)
    outside = subst IsFromOutside (sym is) tt

    other : has_other_manager w node ≡ true
    other = has_other node w.greatest at w.manager up.role elsewhere

    live : is_live w node ≡ true
    live = not_not (is_live w node) down_not
      where
        not_not : (b : Bool) → (not b && true) ≡ false → b ≡ true
        not_not true h = refl
        not_not false h = cc

    abbrev moment : ℕ
    moment = acting now (system_in w)

    served_by : (events : List Event) → GoesBy w node moment true leaves events → IsServed w node now asked events
    served_by events goes =
        own_served m cap w node now asked there outside events
        (ap (λ (i : Input). is_down w node i) is ∙ down_not) (ap (takes_over w) is)
        (subst (λ (i : Input). IsOwn w node now asked Nothing i events) (sym is)
        (going w node moment asked leaves events leaves_is (subst (λ (b : Bool). GoesBy w node moment b leaves events) (sym other) goes)))

    -- memory was short before the manager was asked
    pub lost_short : (came : Came D) → IsShort m cap w None old came → IsServedAs m cap w node now asked old (record { members = members; work = came.work }) [] came.answer
    lost_short came short = short_served m cap w node now asked there outside accepted only_now (record { members = members; work = Up manager at }) state came short

    module _ (came : Came D) (name : List ℕ) (named : name ≡ node_at node (system_in w).nodes) (comes : Comes m manager at false node now (request.NodeLost (name ∷ [])) None came)
        (accepts : (nodes : List (List ℕ)) → IsOk (applied (system_in w) moment node (request.NodeLost nodes)))
      where
        abbrev off : World
        off = without w node

        abbrev wanted : Request
        wanted = loss_of w node

        wanted_is : request.NodeLost (name ∷ []) ≡ wanted
        wanted_is = ap (λ (n : List ℕ). request.NodeLost (n ∷ [])) named

        abbrev res : Result Accepted Refusal
        res = applied (system_in w) moment node wanted

        -- what comes of the record, where the node is gone
        come : ComesTo m cap off node now now input.StopNode wanted None old came came.event
        come =
            subst (λ (r : Request). ComesTo m cap off node now now input.StopNode r None old came came.event) wanted_is
            (comes cap off input.StopNode now state.small (up_without m cap w node manager at up elsewhere) (set_off w.live node) (ap (λ (r : Request). Some r) (sym wanted_is)))

        -- it is there, in doubt, or where the node leaves without room
        goes_with : (e : Event) → goes_then leaves (Some e) ≡ true → IsDecided node moment wanted res (e ∷ []) → (b : Bool) → is_recorded (Some e) ≡ b
            → (is_step e ≡ true) × GoesBy w node moment true leaves (goes_by node leaves ∷ e ∷ [])
        goes_with e goes decided true recorded =
            (recorded_step e recorded, lost w node moment leaves e (change_is (goes_by node leaves) node moment wanted res e recorded decided))
        goes_with e goes decided false recorded =
            let full = full_alone res node moment wanted e (accepts (node_at node (system_in w).nodes ∷ [])) recorded decided in
            let leaving = (recorded_or_full leaves e goes recorded).0 in
            subst (λ (x : Event). (is_step x ≡ true) × GoesBy w node moment true leaves (goes_by node leaves ∷ x ∷ [])) (sym full.2)
            (refl, subst (λ (b : Bool). GoesBy w node moment true b (goes_by node b ∷ event.Full node full.0 full.1 ∷ [])) (sym leaving) (inr (refl, refl)))

        -- a node that goes, and that record
        two_by : (b : Bool) (e : Event) (after : Members) → is_step e ≡ true → IsStep m cap off now now input.StopNode None old came e → IsServed w node now asked (goes_by node b ∷ e ∷ [])
            → IsStateAt m cap (after_event off e) (record { members = after; work = came.work })
            → IsServedAs m cap w node now asked old (record { members = after; work = came.work }) (goes_by node b ∷ e ∷ []) came.answer
        two_by true e after is_a_step step served then_ =
            two_served m cap w node now asked there outside (event.Left node) e came.answer (is_journal came.answer) old (record { members = after; work = came.work }) refl is_a_step
            (subst (λ (i : Input). Part m None w now i (is_journal came.answer) (event.Left node ∷ e ∷ []) old (work_disk came.work)) (sym is)
            (goes_and accepted m only_now cap w manager at up node now input.StopNode (is_journal came.answer) e is_a_step (work_disk came.work) live true step.part))
            served refl (step.told (why_of asked)) then_
        two_by false e after is_a_step step served then_ =
            two_served m cap w node now asked there outside (event.Stopped node) e came.answer (is_journal came.answer) old (record { members = after; work = came.work }) refl is_a_step
            (subst (λ (i : Input). Part m None w now i (is_journal came.answer) (event.Stopped node ∷ e ∷ []) old (work_disk came.work)) (sym is)
            (goes_and accepted m only_now cap w manager at up node now input.StopNode (is_journal came.answer) e is_a_step (work_disk came.work) live false step.part))
            served refl (step.told (why_of asked)) then_

        moved : (after : Members) → AreMembersOf off after → (o : Option Event) → goes_then leaves o ≡ true → ComesTo m cap off node now now input.StopNode wanted None old came o
            → IsServedAs m cap w node now asked old (record { members = after; work = came.work }) (both (Some (goes_by node leaves)) o) came.answer
        moved after kept None goes comes_to = absurd (nothing leaves goes)
          where
            nothing : (b : Bool) → (false || b && false) ≡ true → ⊥
            nothing true h = cc
            nothing false h = cc
        moved after kept (Some e) goes comes_to =
            let step = comes_to.0 in
            let with_ = goes_with e goes comes_to.1 (is_recorded (Some e)) refl in
            two_by leaves e after with_.0 step (served_by (goes_by node leaves ∷ e ∷ []) with_.1)
            (record { members = members_step names off e after with_.0 step.part.comes.0 kept; work = step.work; small = state.small })

        pub loss_moves : (after : Members) → after.names.items ≡ members.names.items → after.live.items ≡ slice_set members.live.items node false → after.held.items ≡ members.held.items → after.greatest ≡ members.greatest
            → goes_then leaves came.event ≡ true
            → IsServedAs m cap w node now asked old (record { members = after; work = came.work }) (both (Some (goes_by node leaves)) came.event) came.answer
        loss_moves after same lives held greatest goes = moved after (record {
          names = state.members.names ∙ sym same;
          live = lives ∙ ap (λ (l : List Bool). slice_set l node false) state.members.live;
          held = held ∙ state.members.held;
          greatest = greatest ∙ state.members.greatest;
        }) came.event goes come

        -- ---- it stays

        abbrev gone : List Bool
        gone = slice_set w.live node false

        off_is : off ≡ relive w gone
        off_is = without_is w node (other_stays node at w.greatest w.manager up.role elsewhere ∙ sym up.role)

        stays_full : (need most : ℕ) → leaves ≡ false → IsStep m cap (relive w gone) now now input.StopNode None old came (event.Full node need most)
            → IsServedAs m cap w node now asked old (record { members = members; work = came.work }) (event.Full node need most ∷ []) came.answer
        stays_full need most stops step =
            one_served m cap w node now asked there outside (event.Full node need most) came.answer (is_journal came.answer) old (record { members = members; work = came.work }) refl
            (subst (λ (i : Input). Part m None w now i (is_journal came.answer) (event.Full node need most ∷ []) old (work_disk came.work)) (sym is)
            (full_stop_back m cap w gone now (is_journal came.answer) node need most old (work_disk came.work) step.part))
            (served_by (event.Full node need most ∷ []) (subst (λ (b : Bool). GoesBy w node moment true b (event.Full node need most ∷ [])) (sym stops) (inr refl)))
            refl (step.told (why_of asked)) (record { members = state.members; work = work_back m cap w gone came.work step.work; small = state.small })

        -- without a record, and with one that has no room, of a node that only stops
        not_recorded : (a b c : Bool) → (a || b && c) ≡ false → a ≡ false
        not_recorded true b c h = cc
        not_recorded false b c h = refl

        only_stops : (b : Bool) → (false || b && true) ≡ false → b ≡ false
        only_stops true h = cc
        only_stops false h = refl

        stays : (o : Option Event) → goes_then leaves o ≡ false → ComesTo m cap (relive w gone) node now now input.StopNode wanted None old came o
            → IsServedAs m cap w node now asked old (record { members = members; work = came.work }) (both o None) came.answer
        stays None goes short = lost_short came (short_back m cap w gone None old came short)
        stays (Some e) goes comes_to =
            let recorded = not_recorded (is_recorded (Some e)) leaves (is_full (Some e)) goes in
            let full = full_alone res node moment wanted e (accepts (node_at node (system_in w).nodes ∷ [])) recorded comes_to.1 in
            subst (λ (x : Event). IsServedAs m cap w node now asked old (record { members = members; work = came.work }) (x ∷ []) came.answer) (sym full.2)
            (stays_full full.0 full.1 (only_stops leaves (subst (λ (x : Event). goes_then leaves (Some x) ≡ false) full.2 goes))
            (subst (λ (x : Event). IsStep m cap (relive w gone) now now input.StopNode None old came x) full.2 comes_to.0))

        pub loss_stays : goes_then leaves came.event ≡ false → IsServedAs m cap w node now asked old (record { members = members; work = came.work }) (both came.event None) came.answer
        loss_stays goes =
            stays came.event goes (subst (λ (v : World). ComesTo m cap v node now now input.StopNode wanted None old came came.event) off_is come)
