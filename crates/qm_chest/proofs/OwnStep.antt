-- What a manager at work shows, and a node that it fences: what comes of it in a world.
use Rattle.std.proofs.Common.{◌≡◌, ◌≢◌, ℕ, Bool, true, false, cond, List, [], ◌∷◌, refl, sym, ◌∙◌, ap, subst, arith, Option, None, Some, Result, Ok, Err, ◌==◌, option_and_then, option_map}
use Rattle.std.proofs.lemmas.Bool.Decides.{nat_tests}
use Rattle.qm_disk.specs.Disk.{CrashState, Meaning, IsLeft}
use Rattle.qm_history.specs.Common.{Input, Query, Row, Refusal, Request, System, Duty, acting, duties, node_at, CanCome, held_by, role_in, system_in}
use Rattle.qm_kinds.specs.declared.input.Input.TheVariants as input
use Rattle.qm_kinds.specs.declared.request.Request.TheVariants as request
use Rattle.qm_model.specs.Rows.{ManagerRole, view}
use Rattle.qm_acting.specs.Standing.{standing_of, disk_of}
use Rattle.qm_acting.specs.declared.manager.Manager.{Manager}
use Rattle.qm_history.specs.declared.call.Answer.TheVariants as answer
use Rattle.qm_history.specs.declared.call.Takeover.{Takeover}
use Rattle.qm_history.specs.declared.event.Event.{Event}
use Rattle.qm_history.specs.declared.event.Event.TheVariants as event
use Rattle.qm_history.specs.declared.world.Role.{Role}
use Rattle.qm_history.specs.declared.world.World.{World}
use Rattle.qm_history.specs.Answers.{rows_shown}
use Rattle.qm_history.specs.Room.{Room, HasRoom, room_after}
use Rattle.qm_history.specs.Turn.{Beside, FencedOr, IsAsked, IsViewed, fence, fence_of}
use Rattle.qm_chest.specs.declared.asking.Came.{Came}
use Rattle.qm_chest.specs.declared.work.Work.TheVariants.{Up}
use Rattle.qm_chest.specs.Work.{IsUp}
use Rattle.qm_chest.specs.Parts.{Part}
use Rattle.qm_chest.specs.Steps.{ComesTo, OwnComesTo}
use Rattle.qm_chest.proofs.Holding.{SiteFilesAreAccepted}
use Rattle.qm_chest.proofs.Whole.{work_still}

module _ (accepted : SiteFilesAreAccepted) {D : Type 0} (m : Meaning D) (only_now : (disk : D) (crashed : CrashState) → m.left_since disk (m.moment disk) crashed → IsLeft (m.may_leave disk) crashed)
    (cap : ℕ) (w : World) (manager : Manager D) (at : ℕ) (up : IsUp m cap w manager at) (node reading acted : ℕ) (beside : Beside) (took : Option Takeover) (mo : ℕ) (mo_is : mo ≡ acting reading (standing_of manager).system)
  where
    abbrev disk : D
    disk = disk_of manager

    at_is : mo ≡ acting reading (system_in w)
    at_is = mo_is ∙ ap (acting reading) up.system

    quiet : (asked : Input) (e : Event) → CanCome w e → ((room : Room) → room_after w room e ≡ room) → ((room : Room) → HasRoom None w room reading asked e [])
        → Part m None w reading asked false (e ∷ []) disk disk
    quiet asked e comes stays has = work_still accepted m cap w only_now (Up manager at) up reading asked e comes stays has

    -- ---- fetches and listings

    pub fetch_comes : (known : List ℕ) (list : List Duty) → list ≡ duties (standing_of manager).system (node_at node (standing_of manager).system.nodes) known
        → OwnComesTo m cap w node reading acted (input.Fetch known) beside took disk
        (record { work = Up manager at; event = Some (event.Shown node mo (input.Fetch known)); answer = answer.Duties took mo list }) (Some (event.Shown node mo (input.Fetch known)))
    fetch_comes known list is = (
      record {
        part = quiet (input.Fetch known) (event.Shown node mo (input.Fetch known)) tt (λ room. refl) (λ room. tt);
        work = up;
        told = λ because. ap (answer.Duties took mo) (is ∙ ap (λ (s : System). duties s (node_at node s.nodes) known) up.system);
      },
      λ called. ap (λ (x : ℕ). event.Shown node x (input.Fetch known) ∷ []) at_is,
    )

    -- the role of the manager as listings show it
    abbrev role_shown : List ℕ → ManagerRole
    role_shown name = record { node = name; epoch = (standing_of manager).recorded.says.epoch }

    abbrev shown_of : Role → ManagerRole
    shown_of role = record { node = node_at role.node (system_in w).nodes; epoch = role.epoch }

    role_of : (name : List ℕ) → name ≡ node_at at (system_in w).nodes → role_in w ≡ Some (role_shown name)
    role_of name named = ap (option_map shown_of) up.role ∙ (λ i. Some (record { node = sym named i; epoch = sym up.epoch i }))

    abbrev view_is : Query → List ℕ → Result (List Row) Refusal → Type 0
    view_is query name res = view (standing_of manager).system (Some (role_shown name)) query ≡ res

    in_world : (query : Query) (name : List ℕ) (res : Result (List Row) Refusal) → name ≡ node_at at (standing_of manager).system.nodes → view_is query name res
        → view (system_in w) (role_in w) query ≡ res
    in_world query name res named is =
        ap (λ (role : Option ManagerRole). view (system_in w) role query) (role_of name (named ∙ ap (λ (s : System). node_at at s.nodes) up.system))
        ∙ ap (λ (s : System). view s (Some (role_shown name)) query) (sym up.system) ∙ is

    pub shown_comes : (query : Query) (name : List ℕ) (rows : List Row) → name ≡ node_at at (standing_of manager).system.nodes → view_is query name (Ok rows)
        → OwnComesTo m cap w node reading acted (input.Show query) beside took disk
        (record { work = Up manager at; event = Some (event.Shown node mo (input.Show query)); answer = answer.Shown took mo rows }) (Some (event.Shown node mo (input.Show query)))
    shown_comes query name rows named is =
        let there : view (system_in w) (role_in w) query ≡ Ok rows = in_world query name (Ok rows) named is in (
          record {
            part = quiet (input.Show query) (event.Shown node mo (input.Show query)) tt (λ room. refl) (λ room. tt);
            work = up;
            told = λ because. ap (λ (res : Result (List Row) Refusal). answer.Shown took mo (rows_shown res)) (sym there);
          },
          λ called. subst (λ (res : Result (List Row) Refusal). IsViewed node (acting reading (system_in w)) query res (event.Shown node mo (input.Show query) ∷ [])) (sym there)
              (ap (λ (x : ℕ). event.Shown node x (input.Show query) ∷ []) at_is),
        )

    pub view_refused_comes : (query : Query) (name : List ℕ) (refusal : Refusal) → name ≡ node_at at (standing_of manager).system.nodes → view_is query name (Err refusal)
        → OwnComesTo m cap w node reading acted (input.Show query) beside took disk
        (record { work = Up manager at; event = Some (event.Refused node mo (input.Show query) refusal); answer = answer.Refused took refusal }) (Some (event.Refused node mo (input.Show query) refusal))
    view_refused_comes query name refusal named is =
        let there : view (system_in w) (role_in w) query ≡ Err refusal = in_world query name (Err refusal) named is in (
          record {
            part = quiet (input.Show query) (event.Refused node mo (input.Show query) refusal) tt (λ room. refl) (λ room. tt);
            work = up;
            told = λ because. refl;
          },
          λ called. subst (λ (res : Result (List Row) Refusal). IsViewed node (acting reading (system_in w)) query res (event.Refused node mo (input.Show query) refusal ∷ [])) (sym there)
              (ap (λ (x : ℕ). event.Refused node x (input.Show query) refusal ∷ []) at_is),
        )

    -- ---- the fence

    same_test : (a : ℕ) → (a == a) ≡ true
    same_test a = grind (arith, nat_tests)

    no_test : (a b : ℕ) → a ≢ b → (a == b) ≡ false
    no_test a b differ = grind (arith, nat_tests)

    fenced_by : (o : Option Role) → o ≡ Some (record { node = at; epoch = w.greatest }) → (held current : ℕ) → held ≡ held_by w node → current ≡ w.greatest → held ≢ current
        → option_and_then (λ (role : Role). cond (held_by w node == role.epoch) None (Some (event.Fenced node (held_by w node) role.epoch))) o ≡ Some (event.Fenced node held current)
    fenced_by o is held current held_is current_is differ =
        let apart : held_by w node ≢ w.greatest = λ same. differ (held_is ∙ same ∙ sym current_is) in
        ap (option_and_then (λ (role : Role). cond (held_by w node == role.epoch) None (Some (event.Fenced node (held_by w node) role.epoch)))) is
        ∙ ap (λ (b : Bool). cond b None (Some (event.Fenced node (held_by w node) w.greatest))) (no_test (held_by w node) w.greatest apart)
        ∙ (λ i. Some (event.Fenced node (sym held_is i) (sym current_is i)))

    pub fence_comes : (held current : ℕ) → held ≡ held_by w node → current ≡ (standing_of manager).recorded.says.epoch → held ≢ current
        → OwnComesTo m cap w node reading acted (input.Ask request.Tick) beside took disk
        (record { work = Up manager at; event = Some (event.Fenced node held current); answer = answer.Fenced held current }) (Some (event.Fenced node held current))
    fence_comes held current held_is current_is differ =
        let greatest : current ≡ w.greatest = current_is ∙ up.epoch in
        let is : fence w node ≡ Some (event.Fenced node held current) = fenced_by w.manager up.role held current held_is greatest differ in (
          record {
            part = quiet (input.Ask request.Tick) (event.Fenced node held current)
                (ap (option_map (λ (role : Role). role.epoch)) up.role ∙ ap (λ (x : ℕ). Some x) (sym greatest), held_is, differ) (λ room. refl) (λ room. tt);
            work = up;
            told = λ because. refl;
          },
          λ called. subst (λ (o : Option Event). FencedOr o (IsAsked w node reading request.Tick (event.Fenced node held current ∷ [])) (event.Fenced node held current ∷ [])) (sym is) refl,
        )

    -- ---- requests

    pub ask_comes : (wanted : Request) (old : D) (came : Came D) (o : Option Event) → fence_of w node wanted ≡ None → ComesTo m cap w node reading acted (input.Ask wanted) wanted took old came o
        → OwnComesTo m cap w node reading acted (input.Ask wanted) beside took old came o
    ask_comes wanted old came None none h = h
    ask_comes wanted old came (Some e) none h =
        (h.0, λ called. subst (λ (f : Option Event). FencedOr f (IsAsked w node reading wanted (e ∷ [])) (e ∷ [])) (sym none) h.1)

    -- a node that holds the manager's epoch isn't fenced
    pub unfenced : held_by w node ≡ (standing_of manager).recorded.says.epoch → fence_of w node request.Tick ≡ None
    unfenced held =
        let same : held_by w node ≡ w.greatest = held ∙ up.epoch in
        let yes : (held_by w node == w.greatest) ≡ true = subst (λ (x : ℕ). (held_by w node == x) ≡ true) same (same_test (held_by w node)) in
        ap (option_and_then (λ (role : Role). cond (held_by w node == role.epoch) None (Some (event.Fenced node (held_by w node) role.epoch)))) up.role
        ∙ ap (λ (b : Bool). cond b None (Some (event.Fenced node (held_by w node) w.greatest))) yes

-- TICK alone is for the manager's epoch
pub no_fence : (w : World) (node : ℕ) (wanted : Request) → (wanted ≡ request.Tick → ⊥) → fence_of w node wanted ≡ None
no_fence w node request.Tick differ = absurd (differ refl)
no_fence w node _ differ = refl
