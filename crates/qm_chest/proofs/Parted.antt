-- What a call does behind its takeover, by the parts into which the takeover was taken.
use Rattle.std.proofs.Common.{◌≡◌, ◌≢◌, ℕ, ◌<◌, true, false, List, [], ◌∷◌, length, refl, sym, ◌∙◌, ap, subst, arith, Option, None, Some, slice_get, slice_set, unwrap_or}
use Rattle.qm_disk.specs.Disk.{CrashState, Meaning, IsLeft}
use Rattle.qm_history.specs.Common.{Input, Refusal, acting, plain, is_journal, tells_disk_fault, after_event, ATakeover}
use Rattle.qm_kinds.specs.declared.input.Input.TheVariants as input
use Rattle.qm_kinds.specs.declared.reply.Act.TheVariants as act
use Rattle.qm_acting.proofs.Spare.{keeps_at}
use Rattle.qm_acting.specs.Standing.{disk_of, standing_of}
use Rattle.qm_acting.specs.declared.manager.Manager.{Manager}
use Rattle.qm_history.specs.declared.call.Answer.{Answer}
use Rattle.qm_history.specs.declared.call.Answer.TheVariants as answer
use Rattle.qm_history.specs.declared.call.Takeover.{Takeover}
use Rattle.qm_history.specs.declared.event.Event.{Event}
use Rattle.qm_history.specs.declared.event.Event.TheVariants as event
use Rattle.qm_chest.specs.declared.asking.Came.{Came}
use Rattle.qm_chest.specs.declared.members.Members.{Members}
use Rattle.qm_chest.specs.declared.work.Work.TheVariants.{Up}
use Rattle.qm_chest.specs.declared.serving.Served.{Served}
use Rattle.qm_chest.specs.declared.taken.Taken.{Taken}
use Rattle.qm_chest.specs.At.{CanBeAskedFor, IsWorkOf}
use Rattle.qm_chest.specs.Duties.{ShowsNodeDuties}
use Rattle.qm_chest.specs.Steps.{IsToldStep, LeavesOwn, LeavesStep, OwnComes, OwnStep, is_plain, start_refusal_of}
use Rattle.qm_chest.specs.Taking.{FollowsTaken, LeavesFrom, event_of, told_of}
use Rattle.qm_chest.specs.Whole.{IsToldBy, both}
use Rattle.qm_chest.proofs.Following as following
use Rattle.qm_chest.proofs.Holding.{SiteFilesAreAccepted}
use Rattle.qm_chest.proofs.Kept.{NodesKeepTheirNames, shows_duties}
use Rattle.qm_chest.proofs.Outcomes.{served_as}

-- ---- whatever the disks tell

not_full : (told : Answer) → is_plain told ≡ true → told ≢ answer.HistoryFull
not_full told plain_ is = let never : is_plain answer.HistoryFull ≡ true = subst (λ (a : Answer). is_plain a ≡ true) is plain_ in cc

told_behind : (first : Event) (took : Option Takeover) (o : Option Event) (told : Answer) → IsToldStep took o told → IsToldBy (both (Some first) o) told
told_behind first took None told step = subst (λ (a : Answer). IsToldBy (first ∷ []) a) (sym step) ((λ is. cc), (λ h. cc))
told_behind first took (Some e) told step = (not_full told step.1, λ hides. step.2)

-- a manager is up, and no disk failed
pub up_leaves : {D : Type 0} (m : Meaning D) (members after : Members) (disk : D) (manager : Manager D) (node : ℕ) (first : Event) (second : Option Event) (told : Answer) (s : Served D)
    → IsWorkOf m members.names.items (Up manager node) → after.names.items ≡ members.names.items → after.greatest ≡ members.greatest → disk_of manager ≡ disk → is_journal told ≡ false
    → IsToldBy (both (Some first) second) told → ShowsNodeDuties told → s ≡ record { work = Up manager node; first = Some first; second = second; answer = told } → LeavesFrom m members disk members.greatest after s
up_leaves m members after disk manager node first second told s work names greatest same quiet says duties is =
    subst (λ (x : Served _). LeavesFrom m members disk members.greatest after x) (sym is) (record {
      work = subst (λ (l : List (List ℕ)). IsWorkOf m l (Up manager node)) (sym names) work;
      names = names;
      rises = omega (arith, greatest);
      first = refl;
      leaves = record { faults = record { fault = λ journal. let both_ : false ≡ true = sym quiet ∙ journal in cc; quiet = λ not. ap m.faults same }; spare = λ tells. keeps_at m disk (disk_of manager) same };
      down = λ journal. let both_ : false ≡ true = sym quiet ∙ journal in cc;
      told = says;
      duties = duties;
    })

-- a step of that manager
pub step_leaves : {D : Type 0} (m : Meaning D) (members : Members) (disk : D) (first : Event) (took : Option Takeover) (came : Came D) (s : Served D)
    → LeavesStep m (IsWorkOf m members.names.items) took disk came → s ≡ record { work = came.work; first = Some first; second = came.event; answer = came.answer } → LeavesFrom m members disk members.greatest members s
step_leaves m members disk first took came s left is =
    subst (λ (x : Served _). LeavesFrom m members disk members.greatest members x) (sym is) (record {
      work = left.work;
      names = refl;
      rises = omega arith;
      first = refl;
      leaves = left.leaves;
      down = left.down;
      told = told_behind first took came.event came.answer left.told;
      duties = shows_duties took came.event came.answer left.told;
    })

-- ---- where they tell

-- the manager, the moment, the event, and what is told of the takeover
abbrev pub PartsOf : Type 0 → Type 0
PartsOf D = Manager D × ℕ × Event × Takeover

module _ {D : Type 0} (m : Meaning D) (members : Members) (taken : Taken D) (node : ℕ) (work : IsWorkOf m members.names.items (Up taken.manager node)) (q : PartsOf D)
    (q_is : q ≡ (taken.manager, taken.moment, event_of node taken, told_of taken)) (s : Served D)
  where
    same_disk : disk_of q.0 ≡ disk_of taken.manager
    same_disk = ap (λ (p : PartsOf D). disk_of p.0) q_is

    same_work : IsWorkOf m members.names.items (Up q.0 node)
    same_work = subst (λ (p : PartsOf D). IsWorkOf m members.names.items (Up p.0 node)) (sym q_is) work

    pub managing_leaves : (name : List ℕ) → s ≡ record { work = Up q.0 node; first = Some q.2; second = None; answer = answer.Done (Some q.3) q.1 (plain (act.Managing name q.3.epoch)) }
        → LeavesFrom m members (disk_of taken.manager) members.greatest members s
    managing_leaves name is =
        up_leaves m members members (disk_of taken.manager) q.0 node q.2 None (answer.Done (Some q.3) q.1 (plain (act.Managing name q.3.epoch))) s same_work refl refl same_disk refl
        ((λ same. cc), (λ h. subst (λ (p : PartsOf D). false ≡ tells_disk_fault (p.2 ∷ [])) (sym q_is) refl)) tt is

    pub refused_leaves : (came : Came D) (refusal : Refusal) (moment : ℕ) → came ≡ record { work = Up q.0 node; event = Some (event.Refused node moment input.StartNode refusal); answer = answer.Refused (Some q.3) refusal }
        → s ≡ record { work = came.work; first = Some q.2; second = came.event; answer = came.answer } → LeavesFrom m members (disk_of taken.manager) members.greatest members s
    refused_leaves came refusal moment came_is is =
        up_leaves m members members (disk_of taken.manager) q.0 node q.2 (Some (event.Refused node moment input.StartNode refusal)) (answer.Refused (Some q.3) refusal) s same_work refl refl same_disk refl
        ((λ same. cc), (λ h. refl)) tt (is ∙ ap (λ (x : Came D). record { work = x.work; first = Some q.2; second = x.event; answer = x.answer }) came_is)

    pub started_leaves : (after : Members) (came : Came D) (name : List ℕ) → after.names.items ≡ members.names.items → after.greatest ≡ members.greatest
        → came ≡ record { work = Up q.0 node; event = Some (event.Started node); answer = answer.Done (Some q.3) q.1 (plain (act.NodeStarted name)) }
        → s ≡ record { work = came.work; first = Some q.2; second = came.event; answer = came.answer } → LeavesFrom m members (disk_of taken.manager) members.greatest after s
    started_leaves after came name names greatest came_is is =
        up_leaves m members after (disk_of taken.manager) q.0 node q.2 (Some (event.Started node)) (answer.Done (Some q.3) q.1 (plain (act.NodeStarted name))) s same_work names greatest same_disk refl
        ((λ same. cc), (λ h. refl)) tt (is ∙ ap (λ (x : Came D). record { work = x.work; first = Some q.2; second = x.event; answer = x.answer }) came_is)

    pub own_leaves : (came : Came D) → LeavesOwn m members (Some q.3) q.0 came → s ≡ record { work = came.work; first = Some q.2; second = came.event; answer = came.answer }
        → LeavesFrom m members (disk_of taken.manager) members.greatest members s
    own_leaves came left is =
        step_leaves m members (disk_of taken.manager) q.2 (Some q.3) came s
        (subst (λ (d : D). LeavesStep m (IsWorkOf m members.names.items) (Some q.3) d came) same_disk left) is

module _ (accepted : SiteFilesAreAccepted) (names : NodesKeepTheirNames) {D : Type 0} (m : Meaning D)
    (only_now : (disk : D) (crashed : CrashState) → m.left_since disk (m.moment disk) crashed → IsLeft (m.may_leave disk) crashed) (members : Members) (taken : Taken D) (node now : ℕ) (what : Input)
    (there : node < length members.names.items) (can : CanBeAskedFor node what) (q : PartsOf D) (q_is : q ≡ (taken.manager, taken.moment, event_of node taken, told_of taken)) (s : Served D)
  where
    pub managing_follows : (on : Option (List (List ℕ))) (name : List ℕ) → what ≡ input.TakeManager on → slice_get members.names.items node ≡ Some name
        → s ≡ record { work = Up q.0 node; first = Some q.2; second = None; answer = answer.Done (Some q.3) q.1 (plain (act.Managing name q.3.epoch)) } → FollowsTaken m members taken node now what members s
    managing_follows on name on_is found is = λ tells cap w asked old before same taking took.
        served_as m cap w node now asked old members s
        (record { work = Up taken.manager node; first = Some (event_of node taken); second = None; answer = answer.Done (Some (told_of taken)) taken.moment (plain (act.Managing name taken.epoch)) })
        (is ∙ ap (λ (p : PartsOf D). record { work = Up p.0 node; first = Some p.2; second = None; answer = answer.Done (Some p.3) p.1 (plain (act.Managing name p.3.epoch)) }) q_is)
        (following.managed accepted m only_now cap w asked old before node now what taking (subst (λ (l : List (List ℕ)). node < length l) (sym same) there) can members taken took on on_is name
        (subst (λ (l : List (List ℕ)). slice_get l node ≡ Some name) (sym same) found))

    told_so : (took : Option Takeover) (o : Option Event) (told : Answer) → IsToldStep took o told → following.told_step o told
    told_so took None told step = tt
    told_so took (Some e) told step = (step.0, step.1, step.2)

    pub own_follows : (came : Came D) → IsToldStep (Some q.3) came.event came.answer → OwnStep m members q.0 node node now what (Some q.3) came
        → s ≡ record { work = came.work; first = Some q.2; second = came.event; answer = came.answer } → FollowsTaken m members taken node now what members s
    own_follows came step comes is = λ tells cap w asked old before same taking took.
        let canonical : OwnComes m members taken.manager node node now taken.moment what ATakeover (Some (told_of taken)) came =
        subst (λ (p : PartsOf D). OwnComes m members p.0 node node now taken.moment what ATakeover (Some p.3) came) q_is (comes tells taken.moment ATakeover) in
        served_as m cap w node now asked old members s (record { work = came.work; first = Some (event_of node taken); second = came.event; answer = came.answer })
        (is ∙ ap (λ (p : PartsOf D). record { work = came.work; first = Some p.2; second = came.event; answer = came.answer }) q_is)
        (following.own_served accepted m only_now cap w asked old before node now what taking (subst (λ (l : List (List ℕ)). node < length l) (sym same) there) can members taken took names came came.event
        (canonical cap (after_event w (event_of node taken)) taking.small took.members took.up) (told_so (Some q.3) came.event came.answer step))

    pub refused_follows : (came : Came D) (refusal : Refusal) (moment : ℕ) (o : Option Refusal) → what ≡ input.StartNode → moment ≡ acting now (standing_of q.0).system
        → o ≡ start_refusal_of (standing_of q.0).system (unwrap_or (slice_get members.live.items node) false) → o ≡ Some refusal
        → came ≡ record { work = Up q.0 node; event = Some (event.Refused node moment input.StartNode refusal); answer = answer.Refused (Some q.3) refusal }
        → s ≡ record { work = came.work; first = Some q.2; second = came.event; answer = came.answer } → FollowsTaken m members taken node now what members s
    refused_follows came refusal moment o start moment_is found some came_is is = λ tells cap w asked old before same taking took.
        let canonical : o ≡ start_refusal_of (standing_of taken.manager).system (unwrap_or (slice_get members.live.items node) false) =
        found ∙ ap (λ (p : PartsOf D). start_refusal_of (standing_of p.0).system (unwrap_or (slice_get members.live.items node) false)) q_is in
        served_as m cap w node now asked old members s
        (record {
          work = Up taken.manager node;
          first = Some (event_of node taken);
          second = Some (event.Refused node (acting now (standing_of taken.manager).system) input.StartNode refusal);
          answer = answer.Refused (Some (told_of taken)) refusal;
        })
        (is ∙ ap (λ (x : Came D). record { work = x.work; first = Some q.2; second = x.event; answer = x.answer }) came_is
        ∙ ap (λ (k : ℕ). record { work = Up q.0 node; first = Some q.2; second = Some (event.Refused node k input.StartNode refusal); answer = answer.Refused (Some q.3) refusal }) moment_is
        ∙ ap (λ (p : PartsOf D). record { work = Up p.0 node; first = Some p.2; second = Some (event.Refused node (acting now (standing_of p.0).system) input.StartNode refusal); answer = answer.Refused (Some p.3) refusal }) q_is)
        (following.start_refused accepted m only_now cap w asked old before node now what taking (subst (λ (l : List (List ℕ)). node < length l) (sym same) there) can members taken took refusal start
        (sym canonical ∙ some))

    pub started_follows : (after : Members) (came : Came D) (name : List ℕ) (o : Option Refusal) → what ≡ input.StartNode → o ≡ start_refusal_of (standing_of q.0).system (unwrap_or (slice_get members.live.items node) false)
        → o ≡ None → slice_get members.names.items node ≡ Some name → after.names.items ≡ members.names.items → after.live.items ≡ slice_set members.live.items node true
        → after.held.items ≡ members.held.items → after.greatest ≡ members.greatest
        → came ≡ record { work = Up q.0 node; event = Some (event.Started node); answer = answer.Done (Some q.3) q.1 (plain (act.NodeStarted name)) }
        → s ≡ record { work = came.work; first = Some q.2; second = came.event; answer = came.answer } → FollowsTaken m members taken node now what after s
    started_follows after came name o start found none named after_names live held greatest came_is is = λ tells cap w asked old before same taking took.
        let canonical : o ≡ start_refusal_of (standing_of taken.manager).system (unwrap_or (slice_get members.live.items node) false) =
        found ∙ ap (λ (p : PartsOf D). start_refusal_of (standing_of p.0).system (unwrap_or (slice_get members.live.items node) false)) q_is in
        served_as m cap w node now asked old after s
        (record {
          work = Up taken.manager node;
          first = Some (event_of node taken);
          second = Some (event.Started node);
          answer = answer.Done (Some (told_of taken)) taken.moment (plain (act.NodeStarted name));
        })
        (is ∙ ap (λ (x : Came D). record { work = x.work; first = Some q.2; second = x.event; answer = x.answer }) came_is
        ∙ ap (λ (p : PartsOf D). record { work = Up p.0 node; first = Some p.2; second = Some (event.Started node); answer = answer.Done (Some p.3) p.1 (plain (act.NodeStarted name)) }) q_is)
        (following.started accepted m only_now cap w asked old before node now what taking (subst (λ (l : List (List ℕ)). node < length l) (sym same) there) can members taken took after name start
        (sym canonical ∙ none) named (sym same) after_names live held greatest)
