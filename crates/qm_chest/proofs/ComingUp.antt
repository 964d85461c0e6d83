-- A node that is started while a manager is up.
use Rattle.std.proofs.Common.{◌≡◌, inl, inr, ℕ, zero, suc, arith, ◌<◌, Bool, true, false, cond, List, [], ◌∷◌, length, refl, sym, ◌∙◌, ap, subst, Option, None, Some, ◌&&◌, not, IsOk, is_none, slice_get, slice_set, unwrap_or}
use Rattle.qm_disk.specs.Disk.{CrashState, Meaning, IsLeft}
use Rattle.qm_history.specs.Common.{Input, Refusal, System, acting, applied, are_numbers_spent, input_of, why_of, IsFromOutside, is_journal, after_event, takes_over, is_live, system_in}
use Rattle.qm_kinds.specs.declared.input.Input.TheVariants as input
use Rattle.qm_kinds.specs.declared.refusal.Refusal.TheVariants as refused
use Rattle.qm_kinds.specs.declared.request.Request.TheVariants as request
use Rattle.qm_acting.specs.Standing.{standing_of, disk_of}
use Rattle.qm_acting.specs.declared.manager.Manager.{Manager}
use Rattle.qm_history.specs.declared.call.Answer.TheVariants as answer
use Rattle.qm_history.specs.declared.call.Call.{Call}
use Rattle.qm_history.specs.declared.event.Event.{Event}
use Rattle.qm_history.specs.declared.event.Event.TheVariants as event
use Rattle.qm_history.specs.declared.world.Role.{Role}
use Rattle.qm_history.specs.declared.world.World.{World}
use Rattle.qm_history.specs.Turn.{IsAsked, IsOwn, IsServed, IsStarted, Nothing, is_down, start_refusal}
use Rattle.qm_chest.specs.declared.asking.Came.{Came}
use Rattle.qm_chest.specs.declared.members.Members.{Members}
use Rattle.qm_chest.specs.declared.work.Work.TheVariants.{Up}
use Rattle.qm_chest.specs.At.{IsStateAt}
use Rattle.qm_chest.specs.Members.{AreMembersOf}
use Rattle.qm_chest.specs.Work.{IsUp, work_disk}
use Rattle.qm_chest.specs.Parts.{Part}
use Rattle.qm_chest.specs.Steps.{Comes, ComesTo, IsShort, IsStep, is_recorded, is_step, start_refusal_of}
use Rattle.qm_chest.specs.Whole.{IsServedAs, both}
use Rattle.qm_chest.proofs.Deciding.{full_alone, recorded_step}
use Rattle.qm_chest.proofs.Holding.{SiteFilesAreAccepted}
use Rattle.qm_chest.proofs.Kept.{NodesKeepTheirNames, members_step}
use Rattle.qm_chest.proofs.Moves.{change_is, starts_and}
use Rattle.qm_chest.proofs.Relived.{relive, work_back, full_start_back, short_back, up_there}
use Rattle.qm_chest.proofs.Whole.{work_still, one_served, own_served, short_served, two_served}

-- neither reason was found
none_found : (a b : Bool) (x y : Refusal) → cond a (Some x) (cond b (Some y) None) ≡ None → (a ≡ false) × (b ≡ false)
none_found true b x y is = cc
none_found false true x y is = cc
none_found false false x y is = (refl, refl)

and_false : (a : Bool) → (a && false) ≡ false
and_false true = refl
and_false false = refl

none_due : (o : Option Role) (role : Role) → o ≡ Some role → is_none o ≡ false
none_due o role is = ap is_none is

-- a node that is set is what it was set to, where it has a place
set_on : (live : List Bool) (node : ℕ) → node < length live → unwrap_or (slice_get (slice_set live node true) node) false ≡ true
set_on [] node there = absurd (omega (arith, there))
set_on (l ∷ live) zero there = refl
set_on (l ∷ live) (suc node) there = set_on live node (omega (arith, there))

module _ (accepted : SiteFilesAreAccepted) (names : NodesKeepTheirNames) {D : Type 0} (m : Meaning D) (only_now : (disk : D) (crashed : CrashState) → m.left_since disk (m.moment disk) crashed → IsLeft (m.may_leave disk) crashed)
    (cap : ℕ) (w : World) (manager : Manager D) (at node now : ℕ) (there : node < length (system_in w).nodes) (members : Members) (state : IsStateAt m cap w (record { members = members; work = Up manager at }))
    (asked : Call) (is : input_of asked ≡ input.StartNode)
  where
    abbrev old : D
    old = disk_of manager

    up : IsUp m cap w manager at
    up = state.work

    outside : IsFromOutside (input_of asked)
    outside = subst IsFromOutside (sym is) tt

    -- why it can't be started
    refusal_is : (o : Option Refusal) → o ≡ start_refusal_of (standing_of manager).system (unwrap_or (slice_get members.live.items node) false) → start_refusal w node ≡ o
    refusal_is o found =
        ap (λ (s : System). start_refusal_of s (is_live w node)) (sym up.system)
        ∙ ap (λ (live : List Bool). start_refusal_of (standing_of manager).system (unwrap_or (slice_get live node) false)) (sym state.members.live) ∙ sym found

    served_by : (events : List Event) → IsStarted w node (acting now (system_in w)) Nothing (start_refusal w node) events → IsServed w node now asked events
    served_by events started =
        own_served m cap w node now asked there outside events
        (ap (λ (i : Input). is_down w node i) is ∙ and_false (not (is_live w node)))
        (ap (takes_over w) is ∙ none_due w.manager (record { node = at; epoch = w.greatest }) up.role)
        (subst (λ (i : Input). IsOwn w node now asked Nothing i events) (sym is) started)

    -- it can't
    pub start_refused : (refusal : Refusal) (moment : ℕ) → moment ≡ acting now (standing_of manager).system
        → Some refusal ≡ start_refusal_of (standing_of manager).system (unwrap_or (slice_get members.live.items node) false)
        → IsServedAs m cap w node now asked old (record { members = members; work = Up manager at }) (event.Refused node moment input.StartNode refusal ∷ []) (answer.Refused None refusal)
    start_refused refusal moment moment_is found =
        let moment_there : moment ≡ acting now (system_in w) = moment_is ∙ ap (acting now) up.system in
        let e : Event = event.Refused node moment input.StartNode refusal in
        one_served m cap w node now asked there outside e (answer.Refused None refusal) false old (record { members = members; work = Up manager at }) refl
        (work_still accepted m cap w only_now (Up manager at) up now (input_of asked) e tt (λ room. refl) (λ room. tt))
        (served_by (e ∷ []) (subst (λ (o : Option Refusal). IsStarted w node (acting now (system_in w)) Nothing o (e ∷ [])) (sym (refusal_is (Some refusal) found))
        (ap (λ (x : ℕ). event.Refused node x input.StartNode refusal ∷ []) moment_there)))
        refl refl state

    -- memory was short before the manager was asked
    pub start_short : (came : Came D) → IsShort m cap w None old came → IsServedAs m cap w node now asked old (record { members = members; work = came.work }) [] came.answer
    start_short came short = short_served m cap w node now asked there outside accepted only_now (record { members = members; work = Up manager at }) state came short

    module _ (came : Came D) (comes : Comes m manager at true node now request.NodeUp None came)
        (found : None ≡ start_refusal_of (standing_of manager).system (unwrap_or (slice_get members.live.items node) false))
        (accepts_up : (s : System) (moment node : ℕ) → are_numbers_spent s ≡ false → IsOk (applied s moment node request.NodeUp)) (within : node < length members.live.items)
      where
        abbrev on : World
        on = relive w (slice_set w.live node true)

        -- what comes of the record, where the node is live
        come : ComesTo m cap on node now now input.StartNode request.NodeUp None old came came.event
        come = comes cap on input.StartNode now state.small (up_there m cap w (slice_set w.live node true) manager at up) (set_on w.live node (subst (λ (l : List Bool). node < length l) state.members.live within)) refl

        no_reason : (are_numbers_spent (system_in w) ≡ false) × (is_live w node ≡ false)
        no_reason = none_found (are_numbers_spent (system_in w)) (is_live w node) refused.NumbersSpent refused.BadValue (refusal_is None found)

        accepts : IsOk (applied (system_in w) (acting now (system_in w)) node request.NodeUp)
        accepts = accepts_up (system_in w) (acting now (system_in w)) node no_reason.0

        started_by : (events : List Event) → IsStarted w node (acting now (system_in w)) Nothing None events → IsServed w node now asked events
        started_by events started =
            served_by events (subst (λ (o : Option Refusal). IsStarted w node (acting now (system_in w)) Nothing o events) (sym (refusal_is None found)) started)

        -- the record is there, or in doubt
        changed : (e : Event) → is_recorded (Some e) ≡ true → IsAsked on node now request.NodeUp (e ∷ []) → IsServed w node now asked (event.Started node ∷ e ∷ [])
        changed e recorded asks =
            started_by (event.Started node ∷ e ∷ []) (inl (change_is (event.Started node) node (acting now (system_in w)) request.NodeUp
            (applied (system_in w) (acting now (system_in w)) node request.NodeUp) e recorded asks))

        two : (e : Event) (after : Members) → is_step e ≡ true → IsStep m cap on now now input.StartNode None old came e → IsServed w node now asked (event.Started node ∷ e ∷ [])
            → IsStateAt m cap (after_event on e) (record { members = after; work = came.work })
            → IsServedAs m cap w node now asked old (record { members = after; work = came.work }) (event.Started node ∷ e ∷ []) came.answer
        two e after is_a_step step served then_ =
            two_served m cap w node now asked there outside (event.Started node) e came.answer (is_journal came.answer) old (record { members = after; work = came.work }) refl is_a_step
            (subst (λ (i : Input). Part m None w now i (is_journal came.answer) (event.Started node ∷ e ∷ []) old (work_disk came.work)) (sym is)
            (starts_and accepted m only_now cap w manager at up node now input.StartNode (is_journal came.answer) e is_a_step (work_disk came.work) no_reason.1 step.part))
            served refl (step.told (why_of asked)) then_

        moved : (after : Members) → AreMembersOf on after → (o : Option Event) → is_recorded o ≡ true → ComesTo m cap on node now now input.StartNode request.NodeUp None old came o
            → IsServedAs m cap w node now asked old (record { members = after; work = came.work }) (both (Some (event.Started node)) o) came.answer
        moved after kept None recorded comes_to = absurd (nothing recorded)
          where
            nothing : false ≡ true → ⊥
            nothing h = cc
        moved after kept (Some e) recorded comes_to =
            let step = comes_to.0 in
            let is_a_step : is_step e ≡ true = recorded_step e recorded in
            two e after is_a_step step (changed e recorded comes_to.1) (record { members = members_step names on e after is_a_step step.part.comes.0 kept; work = step.work; small = state.small })

        -- it has no room, or memory was short
        stays : (o : Option Event) → is_recorded o ≡ false → ComesTo m cap on node now now input.StartNode request.NodeUp None old came o
            → IsServedAs m cap w node now asked old (record { members = members; work = came.work }) (both o None) came.answer
        stays None recorded short =
            short_served m cap w node now asked there outside accepted only_now (record { members = members; work = Up manager at }) state came
            (short_back m cap w (slice_set w.live node true) None old came short)
        stays (Some e) recorded comes_to =
            let full = full_alone (applied (system_in w) (acting now (system_in w)) node request.NodeUp) node (acting now (system_in w)) request.NodeUp e accepts recorded comes_to.1 in
            subst (λ (x : Event). IsServedAs m cap w node now asked old (record { members = members; work = came.work }) (x ∷ []) came.answer) (sym full.2)
            (stays_full full.0 full.1 (subst (λ (x : Event). IsStep m cap on now now input.StartNode None old came x) full.2 comes_to.0))
          where
            stays_full : (need most : ℕ) → IsStep m cap on now now input.StartNode None old came (event.Full node need most)
                → IsServedAs m cap w node now asked old (record { members = members; work = came.work }) (event.Full node need most ∷ []) came.answer
            stays_full need most step =
                one_served m cap w node now asked there outside (event.Full node need most) came.answer (is_journal came.answer) old (record { members = members; work = came.work }) refl
                (subst (λ (i : Input). Part m None w now i (is_journal came.answer) (event.Full node need most ∷ []) old (work_disk came.work)) (sym is)
                (full_start_back m cap w (slice_set w.live node true) now (is_journal came.answer) node need most old (work_disk came.work) step.part))
                (started_by (event.Full node need most ∷ []) (inr refl)) refl (step.told (why_of asked))
                (record { members = state.members; work = work_back m cap w (slice_set w.live node true) came.work step.work; small = state.small })

        pub start_moves : (after : Members) → after.names.items ≡ members.names.items → after.live.items ≡ slice_set members.live.items node true → after.held.items ≡ members.held.items → after.greatest ≡ members.greatest
            → is_recorded came.event ≡ true
            → IsServedAs m cap w node now asked old (record { members = after; work = came.work }) (both (Some (event.Started node)) came.event) came.answer
        start_moves after same lives held greatest recorded = moved after (record {
          names = state.members.names ∙ sym same;
          live = lives ∙ ap (λ (l : List Bool). slice_set l node true) state.members.live;
          held = held ∙ state.members.held;
          greatest = greatest ∙ state.members.greatest;
        }) came.event recorded come

        pub start_stays : is_recorded came.event ≡ false → IsServedAs m cap w node now asked old (record { members = members; work = came.work }) (both came.event None) came.answer
        start_stays recorded = stays came.event recorded come
