-- What a call does behind its takeover.
use Rattle.std.proofs.Common.{◌≡◌, ℕ, ◌+◌, ◌<◌, Bool, true, false, cond, List, [], ◌∷◌, length, refl, sym, ◌∙◌, ap, subst, arith, Option, None, Some, option_to_list, slice_get, slice_set, unwrap_or}
use Rattle.qm_disk.specs.Disk.{CrashState, Meaning, IsLeft}
use Rattle.qm_history.specs.Common.{Input, Refusal, System, acting, are_numbers_spent, system_of, node_at, event_answer, moment_of, plain, taken_answer, input_of, why_of, is_disk_fault, is_journal, told_by, after_event, is_live, system_in}
use Rattle.qm_kinds.specs.declared.input.Input.TheVariants as input
use Rattle.qm_kinds.specs.declared.refusal.Refusal.TheVariants as refused
use Rattle.qm_kinds.specs.declared.reply.Act.TheVariants as act
use Rattle.qm_acting.specs.Standing.{disk_of, standing_of}
use Rattle.qm_history.specs.declared.call.Answer.{Answer}
use Rattle.qm_history.specs.declared.call.Answer.TheVariants as answer
use Rattle.qm_history.specs.declared.call.Call.{Call}
use Rattle.qm_history.specs.declared.call.Call.TheVariants as call
use Rattle.qm_history.specs.declared.call.Takeover.{Takeover}
use Rattle.qm_history.specs.declared.event.Event.{Event}
use Rattle.qm_history.specs.declared.event.Event.TheVariants as event
use Rattle.qm_history.specs.declared.world.World.{World}
use Rattle.qm_history.specs.Contents.{compacted_file}
use Rattle.qm_history.specs.Room.{is_compacted_next}
use Rattle.qm_history.specs.Turn.{ATakeover, IsOwn, IsStarted, start_refusal}
use Rattle.qm_chest.specs.declared.asking.Came.{Came}
use Rattle.qm_chest.specs.declared.members.Members.{Members}
use Rattle.qm_chest.specs.declared.work.Work.{Work}
use Rattle.qm_chest.specs.declared.work.Work.TheVariants.{Up}
use Rattle.qm_chest.specs.declared.taken.Taken.{Taken}
use Rattle.qm_chest.specs.At.{CanBeAskedFor}
use Rattle.qm_chest.specs.Members.{AreMembersOf}
use Rattle.qm_chest.specs.Work.{IsWorkAt, work_disk}
use Rattle.qm_chest.specs.Parts.{HoldSome, Part}
use Rattle.qm_chest.specs.Steps.{OwnComesTo, is_plain, is_step, start_refusal_of}
use Rattle.qm_chest.specs.Taking.{IsTaken, IsTaking, event_of, told_of}
use Rattle.qm_chest.specs.Whole.{IsServedAs}
use Rattle.qm_chest.proofs.Failures as failures
use Rattle.qm_chest.proofs.Holding.{SiteFilesAreAccepted, holds_some}
use Rattle.qm_chest.proofs.Joining.{joined}
use Rattle.qm_chest.proofs.Kept.{NodesKeepTheirNames, members_step}
use Rattle.qm_chest.proofs.Names.{name_there, one_name}
use Rattle.qm_chest.proofs.Relived.{up_there}
use Rattle.qm_chest.proofs.Whole.{work_still}

-- ---- events that may follow

-- it tells of no record in doubt and compacts nothing, and no epoch comes with it
pub record IsFollowing (w : World) (e : Event) : Type 0 where
  pub tells : told_by (e ∷ []) ≡ None
  pub next : is_compacted_next (e ∷ []) ≡ false
  pub image : compacted_file e ≡ None
  pub greatest : (after_event w e).greatest ≡ w.greatest

step_follows : (w : World) (e : Event) → is_step e ≡ true → IsFollowing w e
step_follows w (event.Done node moment asked reply) step = record { tells = refl; next = refl; image = refl; greatest = refl }
step_follows w (event.Refused node moment asked refusal) step = record { tells = refl; next = refl; image = refl; greatest = refl }
step_follows w (event.Shown node moment asked) step = record { tells = refl; next = refl; image = refl; greatest = refl }
step_follows w (event.Doubt node moment asked) step = record { tells = refl; next = refl; image = refl; greatest = refl }
step_follows w (event.Full node need cap) step = record { tells = refl; next = refl; image = refl; greatest = refl }
step_follows w (event.Fenced node held current) step = record { tells = refl; next = refl; image = refl; greatest = refl }
step_follows w (event.NoManager node) step = cc
step_follows w (event.Took node moment epoch gone up may kept) step = cc
step_follows w (event.TakeDoubt node tried kept) step = cc
step_follows w (event.Stopped node) step = cc
step_follows w (event.Left node) step = cc
step_follows w (event.Started node) step = cc
step_follows w (event.Compacted node epoch file) step = cc
step_follows w (event.CompactDoubt node) step = cc

-- what a step's event and answer are to one another
abbrev pub told_step : Option Event → Answer → Type 0
told_step None told = Unit {0}
told_step (Some e) told = (is_step e ≡ true) × (is_plain told ≡ true) × (is_journal told ≡ is_disk_fault e)

-- START/QUEUE/MANAGER is asked for by a line alone
managing : (asked : Call) (on : Option (List (List ℕ))) (took : Option Takeover) (moment : ℕ) (name : List ℕ) (epoch : ℕ) → input_of asked ≡ input.TakeManager on
    → answer.Done took moment (plain (act.Managing name epoch)) ≡ taken_answer took moment name epoch (why_of asked)
managing (call.Line line what) on took moment name epoch is = refl
managing (call.Fetch known) on took moment name epoch is = cc
managing (call.Report run told) on took moment name epoch is = cc
managing call.Leave on took moment name epoch is = cc

-- a node that can be started isn't live
not_live : (spent live : Bool) → cond spent (Some refused.NumbersSpent) (cond live (Some refused.BadValue) None) ≡ None → live ≡ false
not_live true live h = cc
not_live false true h = cc
not_live false false h = refl

-- ---- behind a takeover that stands

module _ (accepted : SiteFilesAreAccepted) {D : Type 0} (m : Meaning D) (only_now : (disk : D) (crashed : CrashState) → m.left_since disk (m.moment disk) crashed → IsLeft (m.may_leave disk) crashed)
    (cap : ℕ) (w : World) (asked : Call) (old : D) (before : Members) (node now : ℕ) (what : Input) (taking : IsTaking before node what cap w asked) (there : node < length before.names.items)
    (can : CanBeAskedFor node what) (members : Members) (taken : Taken D) (is : IsTaken m cap w node now (input_of asked) old members taken)
  where
    abbrev took : Event
    took = event_of node taken

    abbrev v : World
    v = after_event w took

    epoch_is : taken.epoch ≡ w.greatest + 1
    epoch_is = is.part.comes.0.next_epoch

    between : HoldSome (m.seen (disk_of taken.manager))
    between = holds_some accepted (m.seen (disk_of taken.manager)) (standing_of taken.manager).recorded (system_of is.up.may.log) is.up.at_rest.holds is.up.may.site

    -- the takeover is the whole call
    alone_at : (work : Work D) → work_disk work ≡ disk_of taken.manager → IsWorkAt m cap v work
        → IsServedAs m cap w node now asked old (record { members = members; work = work }) (took ∷ []) (answer.NoMemory (Some (told_of taken)))
    alone_at work same at =
        failures.put_alone m cap w asked before node now what taking there can took [] false members old work
        (subst (λ (d : D). Part m None w now (input_of asked) false (took ∷ []) old d) (sym same) is.part) (λ said. refl) refl is.members at (omega (arith, epoch_is))
        (Some (told_of taken)) (sym is.told) refl
        (failures.alone m cap w asked before node now what taking there can (took ∷ []) (refl, is.moment, is.may, refl))

    pub managed : (on : Option (List (List ℕ))) → what ≡ input.TakeManager on → (name : List ℕ) → slice_get before.names.items node ≡ Some name
        → IsServedAs m cap w node now asked old (record { members = members; work = Up taken.manager node }) (took ∷ [])
        (answer.Done (Some (told_of taken)) taken.moment (plain (act.Managing name taken.epoch)))
    managed on on_is name found =
        let named = name_there node (system_in w).nodes before.names.items taking.members.names there in
        let same : Some name ≡ Some named.0 = sym found ∙ named.1 in
        let one : name ≡ named.0 = one_name name named.0 same in
        let name_is : name ≡ node_at node (system_in w).nodes = one ∙ named.2 in
        failures.put_plain m cap w asked before node now what taking there can took [] false members old (Up taken.manager node) is.part (λ said. refl) refl is.members is.up (omega (arith, epoch_is))
        (answer.Done (Some (told_of taken)) taken.moment (plain (act.Managing name taken.epoch))) refl
        (managing asked on (Some (told_of taken)) taken.moment name taken.epoch (taking.asks.0 ∙ on_is)
        ∙ (λ i. taken_answer (sym is.told i) taken.moment (name_is i) taken.epoch (why_of asked)))
        (failures.served m cap w asked before node now what taking there can (took ∷ []) (refl, is.moment, is.may, own_nothing on on_is))
      where
        own_nothing : (on : Option (List (List ℕ))) → what ≡ input.TakeManager on → IsOwn v node now asked ATakeover (input_of asked) []
        own_nothing on on_is = subst (λ (i : Input). IsOwn v node now asked ATakeover i []) (sym (taking.asks.0 ∙ on_is)) refl

    -- one event follows
    pub then_served : (e : Event) (told : Answer) (after : Members) (work : Work D) → IsFollowing v e
        → Part m None v now (input_of asked) (is_journal told) (e ∷ []) (disk_of taken.manager) (work_disk work)
        → is_plain told ≡ true → is_journal told ≡ is_disk_fault e → told ≡ event_answer v (Some (told_of taken)) (why_of asked) (unwrap_or (moment_of e) taken.moment) e
        → IsOwn v node now asked ATakeover (input_of asked) (e ∷ []) → AreMembersOf (after_event v e) after → IsWorkAt m cap (after_event v e) work
        → IsServedAs m cap w node now asked old (record { members = after; work = work }) (took ∷ e ∷ []) told
    then_served e told after work follows part plainly disk says own members_at work_at =
        failures.put_plain m cap w asked before node now what taking there can took (e ∷ []) (is_journal told) after old work
        (joined m w now (input_of asked) (is_journal told) took (e ∷ []) old (disk_of taken.manager) (work_disk work) refl follows.tells follows.next is.low between is.part part)
        (λ said. disk ∙ said) follows.image members_at work_at (omega (arith, epoch_is, follows.greatest)) told plainly
        (says ∙ ap (λ (o : Option Takeover). event_answer v o (why_of asked) (unwrap_or (moment_of e) taken.moment) e) (sym is.told))
        (failures.served m cap w asked before node now what taking there can (took ∷ e ∷ []) (refl, is.moment, is.may, own))

    -- ---- a request, a listing or a fetch

    pub own_served : NodesKeepTheirNames → (came : Came D) (o : Option Event) → OwnComesTo m cap v node now taken.moment what ATakeover (Some (told_of taken)) (disk_of taken.manager) came o
        → told_step o came.answer → IsServedAs m cap w node now asked old (record { members = members; work = came.work }) (took ∷ option_to_list o) came.answer
    own_served names came None short step = subst (λ (a : Answer). IsServedAs m cap w node now asked old (record { members = members; work = came.work }) (took ∷ []) a) (sym short.told) (alone_at came.work short.same short.work)
    own_served names came (Some e) comes step =
        then_served e came.answer members came.work (step_follows v e step.0)
        (subst (λ (i : Input). Part m None v now i (is_journal came.answer) (e ∷ []) (disk_of taken.manager) (work_disk came.work)) (sym taking.asks.0) comes.0.part)
        step.1 step.2 (comes.0.told (why_of asked)) (subst (λ (i : Input). IsOwn v node now asked ATakeover i (e ∷ [])) (sym taking.asks.0) (comes.1 asked))
        (members_step names v e members step.0 comes.0.part.comes.0 is.members) comes.0.work

    -- ---- a node that comes up

    -- why it can't
    pub start_refused : (refusal : Refusal) → what ≡ input.StartNode → start_refusal_of (standing_of taken.manager).system (unwrap_or (slice_get members.live.items node) false) ≡ Some refusal
        → IsServedAs m cap w node now asked old (record { members = members; work = Up taken.manager node })
        (took ∷ event.Refused node (acting now (standing_of taken.manager).system) input.StartNode refusal ∷ []) (answer.Refused (Some (told_of taken)) refusal)
    start_refused refusal start found =
        let moment : ℕ = acting now (standing_of taken.manager).system in
        let e : Event = event.Refused node moment input.StartNode refusal in
        then_served e (answer.Refused (Some (told_of taken)) refusal) members (Up taken.manager node) (record { tells = refl; next = refl; image = refl; greatest = refl })
        (work_still accepted m cap v only_now (Up taken.manager node) is.up now (input_of asked) e tt (λ room. refl) (λ room. tt)) refl refl refl
        (own_start start e (subst (λ (o : Option Refusal). IsStarted v node (acting now (system_in v)) ATakeover o (e ∷ [])) (sym (refusal_there (Some refusal) found))
        (ap (λ (s : System). event.Refused node (acting now s) input.StartNode refusal ∷ []) is.up.system))) is.members is.up
      where
        refusal_there : (o : Option Refusal) → start_refusal_of (standing_of taken.manager).system (unwrap_or (slice_get members.live.items node) false) ≡ o → start_refusal v node ≡ o
        refusal_there o found =
            (λ i. start_refusal_of (sym is.up.system i) (unwrap_or (slice_get (sym is.members.live i) node) false)) ∙ found

        own_start : what ≡ input.StartNode → (e : Event) → IsStarted v node (acting now (system_in v)) ATakeover (start_refusal v node) (e ∷ []) → IsOwn v node now asked ATakeover (input_of asked) (e ∷ [])
        own_start start e h = subst (λ (i : Input). IsOwn v node now asked ATakeover i (e ∷ [])) (sym (taking.asks.0 ∙ start)) h

    -- its takeover has told that it is up
    pub started : (after : Members) (name : List ℕ) → what ≡ input.StartNode → start_refusal_of (standing_of taken.manager).system (unwrap_or (slice_get members.live.items node) false) ≡ None
        → slice_get members.names.items node ≡ Some name → members.names.items ≡ before.names.items → after.names.items ≡ members.names.items → after.live.items ≡ slice_set members.live.items node true
        → after.held.items ≡ members.held.items → after.greatest ≡ members.greatest
        → IsServedAs m cap w node now asked old (record { members = after; work = Up taken.manager node }) (took ∷ event.Started node ∷ [])
        (answer.Done (Some (told_of taken)) taken.moment (plain (act.NodeStarted name)))
    started after name start found named same names live held greatest =
        let e : Event = event.Started node in
        let off : is_live v node ≡ false = not_live (are_numbers_spent (system_in v)) (is_live v node) (refusal_there None found) in
        let there_ = name_there node (system_in v).nodes members.names.items is.members.names (subst (λ (l : List (List ℕ)). node < length l) (sym same) there) in
        let both_ : Some name ≡ Some there_.0 = sym named ∙ there_.1 in
        let one : name ≡ there_.0 = one_name name there_.0 both_ in
        then_served e (answer.Done (Some (told_of taken)) taken.moment (plain (act.NodeStarted name))) after (Up taken.manager node) (record { tells = refl; next = refl; image = refl; greatest = refl })
        (work_still accepted m cap v only_now (Up taken.manager node) is.up now (input_of asked) e off (λ room. refl) (λ room. tt)) refl refl
        (ap (λ (n : List ℕ). answer.Done (Some (told_of taken)) taken.moment (plain (act.NodeStarted n))) (one ∙ there_.2))
        (own_start start e (subst (λ (o : Option Refusal). IsStarted v node (acting now (system_in v)) ATakeover o (e ∷ [])) (sym (refusal_there None found)) refl))
        (record { names = is.members.names ∙ sym names; live = live ∙ ap (λ (l : List Bool). slice_set l node true) is.members.live; held = held ∙ is.members.held; greatest = greatest ∙ is.members.greatest })
        (up_there m cap v (slice_set v.live node true) taken.manager node is.up)
      where
        refusal_there : (o : Option Refusal) → start_refusal_of (standing_of taken.manager).system (unwrap_or (slice_get members.live.items node) false) ≡ o → start_refusal v node ≡ o
        refusal_there o found =
            (λ i. start_refusal_of (sym is.up.system i) (unwrap_or (slice_get (sym is.members.live i) node) false)) ∙ found

        own_start : what ≡ input.StartNode → (e : Event) → IsStarted v node (acting now (system_in v)) ATakeover (start_refusal v node) (e ∷ []) → IsOwn v node now asked ATakeover (input_of asked) (e ∷ [])
        own_start start e h = subst (λ (i : Input). IsOwn v node now asked ATakeover i (e ∷ [])) (sym (taking.asks.0 ∙ start)) h
