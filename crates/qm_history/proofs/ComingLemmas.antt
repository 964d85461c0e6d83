-- The events of the computed turn of a call may come one behind another.
use Rattle.std.proofs.Common.{◌≡◌, ℕ, ◌+◌, ◌<◌, ◌≤◌, inl, inr, Bool, true, false, not, ◌||◌, cond, List, [], ◌∷◌, length, map, refl, sym, ◌∙◌, ap, subst, Option, None, Some, Ok, Err, ◌==◌, ◌&&◌, IfSome, IsOk, IsSome, is_some, is_none, unwrap_or, slice_set, Result, length-set}
use Rattle.std.specs.Option.{option_map, option_map_or, option_and_then}
use Rattle.std.proofs.Math.Nat.{le-max_right}
use Rattle.std.proofs.lemmas.Bool.Decides.{Decides-eqb}
use Rattle.qm_history.specs.Common.{Input, Query, Row, Refusal, Request, Node, System, applied, are_numbers_spent, IsConsistent, is_among, IsLawful, Accepted, view, node_at, cluster, IsListOfNodes, HasListsOfNodes, CanFollow, input_of, is_start, IsForUsers, IsFromOutside, acting, system_of, request_record, unless_of, after_event, IsReply, CanCome, CanAllCome, HasSpelling}
use Rattle.qm_kinds.specs.declared.input.Input.TheVariants as input
use Rattle.qm_kinds.specs.declared.request.Request.TheVariants as request
use Rattle.qm_history.specs.declared.call.Call.{Call}
use Rattle.qm_history.specs.declared.call.Call.TheVariants as call
use Rattle.qm_history.specs.declared.event.Event.{Event}
use Rattle.qm_history.specs.declared.event.Event.TheVariants as event
use Rattle.qm_history.specs.declared.world.Role.{Role}
use Rattle.qm_history.specs.declared.world.World.{World}
use Rattle.qm_history.specs.Computed.{decided, asked_of, viewed, fenced_or, compacted, started, goes, going, own_events, takeover, taking, unless_refused_at_once, behind_takeover, unless_down, turn_of, IsLawfulInput, AreSpelled}
use Rattle.qm_history.specs.Takeover.{takes_over, nodes_on, may_after, is_named}
use Rattle.qm_history.specs.Turn.{Beside, Nothing, ATakeover, fence, start_refusal, has_other_manager, loss_of, is_down, IsTurnOf}
use Rattle.qm_history.specs.World.{system_in, role_in, is_live, held_by, epoch_of, log_read, nodes_where, is_none_taken, gone_in, up_with, IsSound}
use Rattle.qm_history.proofs.LogLemmas.{accepted_consistent}
use Rattle.qm_history.proofs.NodeLemmas.{ArePicked, distinct_apart, picked_is_list, all_picked, filter_picked, where_picked, one_picked}
use Rattle.qm_history.proofs.ServedLemmas.{loss_accepted, start_at, served}
use Rattle.qm_history.proofs.SoundLemmas.{as_many, read_log, step_sound}

-- ---- lists of nodes

is_list : (s : System) (xs : List (List ℕ)) → IsConsistent s → ArePicked xs (cluster s) → IsListOfNodes s xs
is_list s xs consistent picked = picked_is_list xs (cluster s) (distinct_apart s.nodes consistent.nodes.distinct) picked

gone_test : (b : Bool) (s : System) (live : List Bool) (test : Bool → Node → Bool) → ArePicked (cond b (cluster s) (nodes_where test live s.nodes)) (cluster s)
gone_test true s live test = all_picked (cluster s)
gone_test false s live test = where_picked test live s.nodes

may_is_list : (s : System) (on : Option (List (List ℕ))) → IsConsistent s → IsListOfNodes s (may_after s on)
may_is_list s None consistent = consistent.may
may_is_list s (Some []) consistent = is_list s (cluster s) consistent (all_picked (cluster s))
may_is_list s (Some (name ∷ names)) consistent = is_list s (may_after s (Some (name ∷ names))) consistent (filter_picked (is_among (name ∷ names)) (cluster s))

user_lists : (s : System) (asked : Request) → IsForUsers asked → HasListsOfNodes s asked
user_lists s (request.NodeLost nodes) users = absurd users
user_lists s (request.Took epoch gone up may) users = absurd users
user_lists s asked users = tt

lawful_there : (s t : System) (node : ℕ) (asked : Request) → length t.nodes ≡ length s.nodes → IsForUsers asked → IsLawful s node asked → IsLawful t node asked
lawful_there s t node (request.InitializeQueue new) size users h = (h.0, h.1, subst (λ n. node < n) (sym size) h.2)
lawful_there s t node (request.Took epoch gone up may) size users h = absurd users
lawful_there s t node asked size users h = h

pub lawful_input : (s t : System) (node : ℕ) (what : Input) → length t.nodes ≡ length s.nodes → IsFromOutside what → IsLawfulInput s node what → IsLawfulInput t node what
lawful_input s t node (input.Ask asked) size users h = lawful_there s t node asked size users h
lawful_input s t node what size users h = tt

-- ---- where a manager is up

-- what a call needs a manager for
abbrev pub IsManaged : World → Input → Type 0
IsManaged w (input.TakeManager on) = Unit {0}
IsManaged w input.StopNode = Unit {0}
IsManaged w (input.Fault place kind) = Unit {0}
IsManaged w what = IsSome w.manager

some_there : (m : Option Role) → is_none m ≡ false → IsSome m
some_there None h = cc
some_there (Some role) h = refl

managed : (w : World) (what : Input) → takes_over w what ≡ false → IsManaged w what
managed w (input.TakeManager on) h = tt
managed w input.StopNode h = tt
managed w (input.Fault place kind) h = tt
managed w what h = some_there w.manager h

managed_after : (w : World) (role : Role) → w.manager ≡ Some role → (what : Input) → IsManaged w what
managed_after w role is (input.TakeManager on) = tt
managed_after w role is input.StopNode = tt
managed_after w role is (input.Fault place kind) = tt
managed_after w role is what = ap is_some is

epoch_there : (m : Option Role) → IsSome m → option_map (λ (role : Role). role.epoch) m ≡ Some (unwrap_or (option_map (λ (role : Role). role.epoch) m) 0)
epoch_there None some = cc
epoch_there (Some role) some = refl

other_at : (node : ℕ) (role : Role) (b : Bool) → not b ≡ true → IsSome (cond b None (Some role))
other_at node role true h = cc
other_at node role false h = refl

other_stays : (node : ℕ) (m : Option Role) → option_map_or (λ (role : Role). not (role.node == node)) m false ≡ true → IsSome (unless_of node m)
other_stays node None h = cc
other_stays node (Some role) h = other_at node role (role.node == node) h

module _ (names : (s : System) (now node : ℕ) (asked : Request) (a : Accepted) → applied s now node asked ≡ Ok a → map (λ n. n.name) a.system.nodes ≡ map (λ n. n.name) s.nodes) (keeps : (s : System) (now node : ℕ) (asked : Request) (a : Accepted) → IsConsistent s → IsLawful s node asked → applied s now node asked ≡ Ok a → IsConsistent a.system) where
  -- ---- each kind of answer

  decided_comes : (w : World) (now node : ℕ) (asked : Request) (res : Result Accepted Refusal) → applied (system_in w) now node asked ≡ res → IsSome w.manager
      → (HasSpelling (request_record now node asked) → IsOk (applied (system_in w) now node asked) → CanFollow (system_in w) now node asked)
      → AreSpelled (decided node now asked res ∷ []) → CanAllCome w (decided node now asked res ∷ [])
  decided_comes w now node asked (Ok a) is up follows spelled =
      ((up, follows spelled.0 (subst (λ x. IsOk x) (sym is) refl), subst (IsReply a.reply) (sym is) refl), tt)
  decided_comes w now node asked (Err refusal) is up follows spelled = (tt, tt)

  viewed_comes : (w : World) (node now : ℕ) (query : Query) (res : Result (List Row) Refusal) → CanAllCome w (viewed node now query res ∷ [])
  viewed_comes w node now query (Ok rows) = (tt, tt)
  viewed_comes w node now query (Err refusal) = (tt, tt)

  fence_at : (w : World) (node : ℕ) (role : Role) (b : Bool) → (held_by w node == role.epoch) ≡ b → epoch_of w ≡ Some role.epoch
      → IfSome (cond b None (Some (event.Fenced node (held_by w node) role.epoch))) (λ e. CanCome w e)
  fence_at w node role true is epoch = tt
  fence_at w node role false is epoch =
      (epoch, refl, λ same. let yes : (held_by w node == role.epoch) ≡ true = (Decides-eqb (held_by w node) role.epoch).1 same in cc)

  fence_with : (w : World) (node : ℕ) (m : Option Role) → w.manager ≡ m
      → IfSome (option_and_then (λ (role : Role). cond (held_by w node == role.epoch) None (Some (event.Fenced node (held_by w node) role.epoch))) m) (λ e. CanCome w e)
  fence_with w node None is = tt
  fence_with w node (Some role) is = fence_at w node role (held_by w node == role.epoch) refl (ap (option_map (λ (r : Role). r.epoch)) is)

  fenced_comes : (w : World) (o : Option Event) (e : Event) → IfSome o (λ x. CanCome w x) → (AreSpelled (e ∷ []) → CanAllCome w (e ∷ []))
      → AreSpelled (fenced_or o e ∷ []) → CanAllCome w (fenced_or o e ∷ [])
  fenced_comes w None e can comes spelled = comes spelled
  fenced_comes w (Some fenced) e can comes spelled = (can, tt)

  -- ---- a call's own events

  module _ (w : World) (sound : IsSound w) (node reading : ℕ) (there : node < length (system_in w).nodes) where
    later : (system_in w).last ≤ acting reading (system_in w)
    later = le-max_right reading (system_in w).last

    consistent : IsConsistent (system_in w)
    consistent = accepted_consistent keeps w.log sound.log

    request_comes : (asked : Request) → IsSome w.manager → IsForUsers asked → IsLawful (system_in w) node asked
        → AreSpelled (asked_of w node (acting reading (system_in w)) asked ∷ []) → CanAllCome w (asked_of w node (acting reading (system_in w)) asked ∷ [])
    request_comes asked up users lawful spelled =
        decided_comes w (acting reading (system_in w)) node asked (applied (system_in w) (acting reading (system_in w)) node asked) refl up
        (λ s ok. record { spelled = s; node_there = there; not_earlier = later; names = lawful; lists = user_lists (system_in w) asked users; accepted = ok }) spelled

    started_comes : (beside : Beside) (o : Option Refusal) → start_refusal w node ≡ o → IsSome w.manager
        → AreSpelled (started w node (acting reading (system_in w)) beside o) → CanAllCome w (started w node (acting reading (system_in w)) beside o)
    started_comes beside (Some refusal) is up spelled = (tt, tt)
    started_comes ATakeover None is up spelled = ((start_at (are_numbers_spent (system_in w)) (is_live w node) is).1, tt)
    started_comes Nothing None is up spelled = (
      (start_at (are_numbers_spent (system_in w)) (is_live w node) is).1,
      decided_comes (after_event w (event.Started node)) (acting reading (system_in w)) node request.NodeUp
          (applied (system_in w) (acting reading (system_in w)) node request.NodeUp) refl up
          (λ s ok. record { spelled = s; node_there = there; not_earlier = later; names = tt; lists = tt; accepted = ok }) spelled.1,
    )

    loss_comes : (v : World) → v.log ≡ w.log → IsSome v.manager → AreSpelled (asked_of w node (acting reading (system_in w)) (loss_of w node) ∷ [])
        → CanAllCome v (asked_of w node (acting reading (system_in w)) (loss_of w node) ∷ [])
    loss_comes v same up spelled =
        let now : ℕ = acting reading (system_in w) in
        decided_comes v now node (loss_of w node) (applied (system_in w) now node (loss_of w node)) (ap (λ log. applied (system_of log) now node (loss_of w node)) same) up
        (λ s ok. subst (λ log. CanFollow (system_of log) now node (loss_of w node)) (sym same)
        (record {
          spelled = s;
          node_there = there;
          not_earlier = later;
          names = tt;
          lists = is_list (system_in w) (node_at node (system_in w).nodes ∷ []) consistent (one_picked node (system_in w).nodes there);
          accepted = loss_accepted (system_in w) now node (node_at node (system_in w).nodes ∷ []);
        })) spelled

    goes_comes : (asked : Call) → is_live w node ≡ true → CanCome w (goes node asked)
    goes_comes call.Leave live = live
    goes_comes _ live = live

    behind_goes : (asked : Call) → ((after_event w (goes node asked)).log ≡ w.log) × ((after_event w (goes node asked)).manager ≡ unless_of node w.manager)
    behind_goes call.Leave = (refl, refl)
    behind_goes _ = (refl, refl)

    going_comes : (asked : Call) → is_live w node ≡ true → (other : Bool) → has_other_manager w node ≡ other
        → AreSpelled (going (goes node asked) w node (acting reading (system_in w)) other) → CanAllCome w (going (goes node asked) w node (acting reading (system_in w)) other)
    going_comes asked live false is spelled = (goes_comes asked live, tt)
    going_comes asked live true is spelled = (
      goes_comes asked live,
      loss_comes (after_event w (goes node asked)) (behind_goes asked).0 (subst (λ m. IsSome m) (sym (behind_goes asked).1) (other_stays node w.manager is)) spelled.1,
    )

    own_comes : (asked : Call) (beside : Beside) (what : Input) → IsManaged w what → (is_start what ≡ false → is_live w node ≡ true) → IsFromOutside what
        → IsLawfulInput (system_in w) node what → AreSpelled (own_events w node reading asked beside what) → CanAllCome w (own_events w node reading asked beside what)
    own_comes asked beside (input.Ask request.Tick) up live users lawful spelled =
        fenced_comes w (fence w node) (asked_of w node (acting reading (system_in w)) request.Tick) (fence_with w node w.manager refl) (request_comes request.Tick up users lawful) spelled
    own_comes asked beside (input.Ask r) up live users lawful spelled = request_comes r up users lawful spelled
    own_comes asked beside (input.Show query) up live users lawful spelled =
        viewed_comes w node (acting reading (system_in w)) query (view (system_in w) (role_in w) query)
    own_comes asked beside (input.Fetch known) up live users lawful spelled = (tt, tt)
    own_comes asked beside input.Compact up live users lawful spelled =
        fenced_comes w (fence w node) (compacted w node) (fence_with w node w.manager refl) (λ s. ((epoch_there w.manager up, inl refl), tt)) spelled
    own_comes asked beside (input.TakeManager on) up live users lawful spelled = tt
    own_comes asked beside input.StartNode up live users lawful spelled = started_comes beside (start_refusal w node) refl up spelled
    own_comes asked beside input.StopNode up live users lawful spelled = going_comes asked (live refl) (has_other_manager w node) refl spelled
    own_comes asked beside (input.Fault place kind) up live users lawful spelled = (tt, tt)

  -- ---- takeovers

  module _ (w : World) (sound : IsSound w) (node reading : ℕ) (there : node < length (system_in w).nodes) (kept : Option Bool) (told : is_some kept ≡ is_some w.doubt) where
    took_comes : (on : Option (List (List ℕ))) → is_named (system_of (log_read w kept)) on node ≡ true
        → AreSpelled (takeover w node reading on kept ∷ []) → CanCome w (takeover w node reading on kept)
    took_comes on named spelled =
        let read = read_log names w kept sound in
        let s : System = system_of (log_read w kept) in
        let holds : IsConsistent s = accepted_consistent keeps (log_read w kept) read.accepted in
        let may = may_is_list s on holds in
        record {
          next_epoch = refl;
          told = told;
          nodes = record { gone_is = refl; up_is = refl; named = named };
          follows = record {
            spelled = spelled.0;
            node_there = subst (λ n. node < n) (sym (as_many names (system_in w) s read.same)) there;
            not_earlier = le-max_right reading s.last;
            names = may;
            lists = (
              is_list s (gone_in w s) holds (gone_test (is_none_taken w) s w.live (λ live n. n.up && not live)),
              is_list s (up_with w node s) holds (where_picked (λ live n. live) (slice_set w.live node true) s.nodes),
              may,
            );
            accepted = refl;
          };
        }

    there_after : (on : Option (List (List ℕ))) → CanCome w (takeover w node reading on kept)
        → length (system_in (after_event w (takeover w node reading on kept))).nodes ≡ length (system_in w).nodes
    there_after on can =
        let v : World = after_event w (takeover w node reading on kept) in
        let after : IsSound v = step_sound names w (takeover w node reading on kept) sound can in
        sym after.held ∙ length-set w.held node (w.greatest + 1) ∙ sound.held ∙ refl

    taking_comes : (asked : Call) (named : Bool) → is_named (system_of (log_read w kept)) (nodes_on (input_of asked)) node ≡ named
        → (is_start (input_of asked) ≡ false → is_live w node ≡ true) → IsFromOutside (input_of asked) → IsLawfulInput (system_in w) node (input_of asked)
        → AreSpelled (taking w node reading asked kept named) → CanAllCome w (taking w node reading asked kept named)
    taking_comes asked false is live users lawful spelled = ((inr refl, λ some. sym told ∙ some), (tt, tt))
    taking_comes asked true is live users lawful spelled =
        let on : Option (List (List ℕ)) = nodes_on (input_of asked) in
        let e : Event = takeover w node reading on kept in
        let can : CanCome w e = took_comes on is (spelled.0, tt) in
        let size : length (system_in (after_event w e)).nodes ≡ length (system_in w).nodes = there_after on can in (
          can,
          own_comes (after_event w e) (step_sound names w e sound can) node reading (subst (λ n. node < n) (sym size) there) asked ATakeover (input_of asked)
              (managed_after (after_event w e) (record { node = node; epoch = w.greatest + 1 }) refl (input_of asked)) live users
              (lawful_input (system_in w) (system_in (after_event w e)) node (input_of asked) size users lawful) spelled.1,
        )

    at_once_comes : (refused : Bool) (events : List Event) → (AreSpelled events → CanAllCome w events)
        → AreSpelled (unless_refused_at_once refused node events) → CanAllCome w (unless_refused_at_once refused node events)
    at_once_comes true events comes spelled = (tt, tt)
    at_once_comes false events comes spelled = comes spelled

    behind_comes : (asked : Call) (takes : Bool) → takes_over w (input_of asked) ≡ takes → (is_start (input_of asked) ≡ false → is_live w node ≡ true)
        → IsFromOutside (input_of asked) → IsLawfulInput (system_in w) node (input_of asked) → AreSpelled (behind_takeover w node reading asked kept takes)
        → CanAllCome w (behind_takeover w node reading asked kept takes)
    behind_comes asked false is live users lawful spelled =
        own_comes w sound node reading there asked Nothing (input_of asked) (managed w (input_of asked) is) live users lawful spelled
    behind_comes asked true is live users lawful spelled =
        let named : Bool = is_named (system_of (log_read w kept)) (nodes_on (input_of asked)) node in
        at_once_comes (not (is_none w.manager || is_named (system_in w) (nodes_on (input_of asked)) node)) (taking w node reading asked kept named)
        (taking_comes asked named refl live users lawful) spelled

    live_at : (live start : Bool) → (not live && not start) ≡ false → start ≡ false → live ≡ true
    live_at true start h none = refl
    live_at false true h none = cc
    live_at false false h none = cc

    down_comes : (asked : Call) (down : Bool) → is_down w node (input_of asked) ≡ down
        → IsFromOutside (input_of asked) → IsLawfulInput (system_in w) node (input_of asked)
        → AreSpelled (unless_down down node reading (input_of asked) (behind_takeover w node reading asked kept (takes_over w (input_of asked))))
        → CanAllCome w (unless_down down node reading (input_of asked) (behind_takeover w node reading asked kept (takes_over w (input_of asked))))
    down_comes asked true is users lawful spelled = (tt, tt)
    down_comes asked false is users lawful spelled =
        behind_comes asked (takes_over w (input_of asked)) refl (live_at (is_live w node) (is_start (input_of asked)) is) users lawful spelled

    pub call_turn : (asked : Call) → IsFromOutside (input_of asked) → IsLawfulInput (system_in w) node (input_of asked)
        → AreSpelled (turn_of w node reading kept asked).events → IsTurnOf w asked (turn_of w node reading kept asked)
    call_turn asked users lawful spelled = (
      record { node_there = there; why_is = refl; outside = users; can_come = down_comes asked (is_down w node (input_of asked)) refl users lawful spelled },
      served w node reading asked kept told,
    )
