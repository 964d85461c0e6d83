-- Where no disk fails and there is room, the turn of a call is the computed one.
use Rattle.std.proofs.Common.{◌≡◌, ℕ, ◌+◌, inl, inr, Bool, true, false, not, ◌||◌, List, [], ◌∷◌, refl, sym, ◌∙◌, ap, subst, Option, None, Some, Ok, Err, is_none, Result}
use Rattle.qm_history.specs.Common.{Input, Query, Row, Refusal, Request, System, applied, is_among, Accepted, view, node_at, input_of, why_of, acting, system_of, told_by, after_event, CanCome, CanAllCome, system_in, role_in, log_read, gone_in, up_with}
use Rattle.qm_kinds.specs.declared.input.Input.TheVariants as input
use Rattle.qm_kinds.specs.declared.request.Request.TheVariants as request
use Rattle.qm_history.specs.declared.call.Call.{Call}
use Rattle.qm_history.specs.declared.call.Call.TheVariants as call
use Rattle.qm_history.specs.declared.event.Event.{Event}
use Rattle.qm_history.specs.declared.event.Event.TheVariants as event
use Rattle.qm_history.specs.declared.turn.Turn.{Turn}
use Rattle.qm_history.specs.declared.turn.Why.{Why}
use Rattle.qm_history.specs.declared.world.World.{World}
use Rattle.qm_history.specs.Computed.{decided, asked_of, viewed, fenced_or, compacted, come_up, started, goes, going, own_events, takeover, taking, unless_refused_at_once, behind_takeover, unless_down, events_of_call, turn_of, AreAllDetermined, AreDetermined}
use Rattle.qm_history.specs.Takeover.{takes_over, nodes_on, may_after, is_named, StandsOrFails, UnlessRefused}
use Rattle.qm_history.specs.Turn.{Beside, Nothing, ATakeover, fence, FencedOr, IsDecided, IsAsked, IsViewed, IsCompaction, IsChange, IsFull, IsComeUp, start_refusal, IsStarted, has_other_manager, loss_of, IsStopped, IsLeftFull, IsLeft, IsGoing, IsOwn, IsBehindTakeover, UnlessDown, is_down, IsServed, IsTurnOf}
use Rattle.qm_history.proofs.TellingLemmas.{IsPlain, own_plain}

-- ---- each kind of answer

decided_one : (node now : ℕ) (asked : Request) (res : Result Accepted Refusal) (events : List Event) → AreAllDetermined events → IsDecided node now asked res events
    → events ≡ decided node now asked res ∷ []
decided_one node now asked (Err refusal) events plain h = h
decided_one node now asked (Ok accepted) (event.Done n m r told ∷ []) plain h =
    let same_node : n ≡ node = h.0 in let same_moment : m ≡ now = h.1 in let same_request : r ≡ asked = h.2 in let same_reply : told ≡ accepted.reply = h.3 in cc
decided_one node now asked (Ok accepted) (event.Doubt n m r ∷ []) plain h = let never : false ≡ true = plain.0 in cc
decided_one node now asked (Ok accepted) (event.Full n need cap ∷ []) plain h = let never : false ≡ true = plain.0 in cc
decided_one node now asked (Ok accepted) events plain h = absurd h

asked_one : (w : World) (node reading : ℕ) (asked : Request) (events : List Event) → AreAllDetermined events → IsAsked w node reading asked events
    → events ≡ asked_of w node (acting reading (system_in w)) asked ∷ []
asked_one w node reading asked events plain h =
    decided_one node (acting reading (system_in w)) asked (applied (system_in w) (acting reading (system_in w)) node asked) events plain h

viewed_one : (node now : ℕ) (query : Query) (res : Result (List Row) Refusal) (events : List Event) → IsViewed node now query res events → events ≡ viewed node now query res ∷ []
viewed_one node now query (Ok rows) events h = h
viewed_one node now query (Err refusal) events h = h

fenced_one : (o : Option Event) (e : Event) (Own : Type 0) (events : List Event) → (Own → events ≡ e ∷ []) → FencedOr o Own events → events ≡ fenced_or o e ∷ []
fenced_one None e Own events one h = one h
fenced_one (Some fenced) e Own events one h = h

compacted_one : (w : World) (node : ℕ) (events : List Event) → AreAllDetermined events → IsCompaction node events → events ≡ compacted w node ∷ []
compacted_one w node (event.Compacted n epoch file ∷ []) plain h = let never : false ≡ true = plain.0 in cc
compacted_one w node (event.Full n need cap ∷ []) plain h = let never : false ≡ true = plain.0 in cc
compacted_one w node (event.CompactDoubt n ∷ []) plain h = let never : false ≡ true = plain.0 in cc
compacted_one w node events plain h = absurd h

never_full : (node : ℕ) (events others : List Event) → AreAllDetermined events → IsFull node events → events ≡ others
never_full node (event.Full n need cap ∷ []) others plain h = let never : false ≡ true = plain.0 in cc
never_full node events others plain h = absurd h

never_left_full : (node : ℕ) (events others : List Event) → AreAllDetermined events → IsLeftFull node events → events ≡ others
never_left_full node (event.Left n ∷ event.Full m need cap ∷ []) others plain h = let never : false ≡ true = plain.1.0 in cc
never_left_full node events others plain h = absurd h

change_one : (first : Event) (node now : ℕ) (asked : Request) (res : Result Accepted Refusal) (events : List Event) → AreAllDetermined events → IsChange first node now asked res events
    → events ≡ first ∷ decided node now asked res ∷ []
change_one first node now asked (Err refusal) events plain h = absurd h
change_one first node now asked (Ok accepted) (e ∷ event.Done n m r told ∷ []) plain h =
    let same : e ≡ first = h.0 in
    let rest : event.Done n m r told ∷ [] ≡ event.Done node now asked accepted.reply ∷ [] = decided_one node now asked (Ok accepted) (event.Done n m r told ∷ []) (refl, tt) h.1 in
    cc
change_one first node now asked (Ok accepted) (e ∷ event.Doubt n m r ∷ []) plain h = let never : false ≡ true = plain.1.0 in cc
change_one first node now asked (Ok accepted) events plain h = absurd h

-- ---- a call's own events

come_up_one : (w : World) (node now : ℕ) (beside : Beside) (events : List Event) → AreAllDetermined events → IsComeUp w node now beside events → events ≡ come_up w node now beside
come_up_one w node now ATakeover events plain h = h
come_up_one w node now Nothing events plain (inl h) =
    change_one (event.Started node) node now request.NodeUp (applied (system_in w) now node request.NodeUp) events plain h
come_up_one w node now Nothing events plain (inr h) = never_full node events (come_up w node now Nothing) plain h

started_one : (w : World) (node now : ℕ) (beside : Beside) (o : Option Refusal) (events : List Event) → AreAllDetermined events → IsStarted w node now beside o events
    → events ≡ started w node now beside o
started_one w node now beside (Some refusal) events plain h = h
started_one w node now beside None events plain h = come_up_one w node now beside events plain h

lost_one : (first : Event) (w : World) (node now : ℕ) (events : List Event) → AreAllDetermined events
    → IsChange first node now (loss_of w node) (applied (system_in w) now node (loss_of w node)) events → events ≡ going first w node now true
lost_one first w node now events plain h = change_one first node now (loss_of w node) (applied (system_in w) now node (loss_of w node)) events plain h

stopped_one : (w : World) (node now : ℕ) (other : Bool) (events : List Event) → AreAllDetermined events → IsStopped w node now other events → events ≡ going (event.Stopped node) w node now other
stopped_one w node now false events plain h = h
stopped_one w node now true events plain (inl h) = lost_one (event.Stopped node) w node now events plain h
stopped_one w node now true events plain (inr h) = never_full node events (going (event.Stopped node) w node now true) plain h

left_one : (w : World) (node now : ℕ) (other : Bool) (events : List Event) → AreAllDetermined events → IsLeft w node now other events → events ≡ going (event.Left node) w node now other
left_one w node now false events plain h = h
left_one w node now true events plain (inl h) = lost_one (event.Left node) w node now events plain h
left_one w node now true events plain (inr h) = never_left_full node events (going (event.Left node) w node now true) plain h

going_one : (w : World) (node now : ℕ) (asked : Call) (events : List Event) → AreAllDetermined events → IsGoing w node now asked events
    → events ≡ going (goes node asked) w node now (has_other_manager w node)
going_one w node now call.Leave events plain h = left_one w node now (has_other_manager w node) events plain h
going_one w node now _ events plain h = stopped_one w node now (has_other_manager w node) events plain h

own_one : (w : World) (node reading : ℕ) (asked : Call) (beside : Beside) (what : Input) (events : List Event) → AreAllDetermined events
    → IsOwn w node reading asked beside what events → events ≡ own_events w node reading asked beside what
own_one w node reading asked beside (input.Ask request.Tick) events plain h =
    fenced_one (fence w node) (asked_of w node (acting reading (system_in w)) request.Tick) (IsAsked w node reading request.Tick events) events (asked_one w node reading request.Tick events plain) h
own_one w node reading asked beside (input.Ask r) events plain h = asked_one w node reading r events plain h
own_one w node reading asked beside (input.Show query) events plain h =
    viewed_one node (acting reading (system_in w)) query (view (system_in w) (role_in w) query) events h
own_one w node reading asked beside input.Compact events plain h =
    fenced_one (fence w node) (compacted w node) (IsCompaction node events) events (compacted_one w node events plain) h
own_one w node reading asked beside input.StartNode events plain h =
    started_one w node (acting reading (system_in w)) beside (start_refusal w node) events plain h
own_one w node reading asked beside input.StopNode events plain h = going_one w node (acting reading (system_in w)) asked events plain h
own_one w node reading asked beside _ events plain h = h

-- what begins with no takeover is determined event by event
all_determined : (events : List Event) → IsPlain events → AreDetermined events → AreAllDetermined events
all_determined [] begins h = tt
all_determined (event.TakeDoubt node tried kept ∷ events) begins h = cc
all_determined (e ∷ events) begins h = h

-- ---- takeovers

module _ (w : World) (node reading : ℕ) (asked : Call) where
  abbrev Then : World → List Event → Type 0
  Then after own = IsOwn after node reading asked ATakeover (input_of asked) own

  -- a takeover that stands is the computed one
  took_one : (n moment epoch : ℕ) (gone up may : List (List ℕ)) (kept : Option Bool) → CanCome w (event.Took n moment epoch gone up may kept)
      → n ≡ node → moment ≡ acting reading (system_of (log_read w kept)) → may ≡ may_after (system_of (log_read w kept)) (nodes_on (input_of asked))
      → event.Took n moment epoch gone up may kept ≡ takeover w node reading (nodes_on (input_of asked)) kept
  took_one n moment epoch gone up may kept can same_node same_moment same_may =
      let same_epoch : epoch ≡ w.greatest + 1 = can.next_epoch in
      let same_gone : gone ≡ gone_in w (system_of (log_read w kept)) = can.nodes.gone_is in
      let same_up : up ≡ up_with w node (system_of (log_read w kept)) = can.nodes.up_is ∙ ap (λ x. up_with w x (system_of (log_read w kept))) same_node in
      cc

  named_one : (n moment epoch : ℕ) (gone up may : List (List ℕ)) (kept : Option Bool) → CanCome w (event.Took n moment epoch gone up may kept)
      → n ≡ node → may ≡ may_after (system_of (log_read w kept)) (nodes_on (input_of asked))
      → is_named (system_of (log_read w kept)) (nodes_on (input_of asked)) node ≡ true
  named_one n moment epoch gone up may kept can same_node same_may =
      let s : System = system_of (log_read w kept) in
      sym (ap (λ l. is_among l (node_at node s.nodes)) same_may) ∙ sym (ap (λ x. is_among may (node_at x s.nodes)) same_node) ∙ can.nodes.named

  stands_one : (events : List Event) → CanAllCome w events → AreDetermined events → StandsOrFails w node reading (nodes_on (input_of asked)) Then events
      → events ≡ taking w node reading asked (told_by events) (is_named (system_of (log_read w (told_by events))) (nodes_on (input_of asked)) node)
  stands_one (event.Took n moment epoch gone up may kept ∷ events) can plain h =
      let e : Event = takeover w node reading (nodes_on (input_of asked)) kept in
      let first : event.Took n moment epoch gone up may kept ≡ e = took_one n moment epoch gone up may kept can.0 h.0 h.1 h.2 in
      let rest : events ≡ own_events (after_event w e) node reading asked ATakeover (input_of asked) =
      own_one (after_event w e) node reading asked ATakeover (input_of asked) events plain.1 (subst (λ x. Then (after_event w x) events) first h.3) in
      ap (λ x. x ∷ events) first ∙ ap (λ x. e ∷ x) rest ∙ sym (ap (taking w node reading asked kept) (named_one n moment epoch gone up may kept can.0 h.0 h.2))
  stands_one (event.TakeDoubt n tried kept ∷ event.NoManager m ∷ []) can plain h =
      let same_node : n ≡ node = h.0 in
      let same_other : m ≡ node = h.1.0 in
      let same_epoch : tried ≡ w.greatest + 1 = h.1.2 in
      let both : event.TakeDoubt n tried kept ∷ event.NoManager m ∷ [] ≡ event.TakeDoubt node (w.greatest + 1) kept ∷ event.NoManager node ∷ [] = cc in
      both ∙ sym (ap (taking w node reading asked kept) h.1.1)
  stands_one (event.TakeDoubt n tried kept ∷ events) can plain h = absurd plain
  stands_one events can plain h = absurd h

  refused_one : (refused : Bool) (events others : List Event) → (StandsOrFails w node reading (nodes_on (input_of asked)) Then events → events ≡ others)
      → UnlessRefused refused node (StandsOrFails w node reading (nodes_on (input_of asked)) Then events) events → events ≡ unless_refused_at_once refused node others
  refused_one true events others one h = h
  refused_one false events others one h = one h

  behind_one : (events : List Event) → CanAllCome w events → AreDetermined events → (takes : Bool) → IsBehindTakeover w node reading asked takes events
      → events ≡ behind_takeover w node reading asked (told_by events) takes
  behind_one events can plain false h =
      own_one w node reading asked Nothing (input_of asked) events (all_determined events (own_plain w node reading asked Nothing (input_of asked) events h) plain) h
  behind_one events can plain true h =
      let kept : Option Bool = told_by events in
      refused_one (not (is_none w.manager || is_named (system_in w) (nodes_on (input_of asked)) node)) events
      (taking w node reading asked kept (is_named (system_of (log_read w kept)) (nodes_on (input_of asked)) node)) (stands_one events can plain) h

  down_one : (down : Bool) (Rest : Type 0) (events others : List Event) → (Rest → events ≡ others) → UnlessDown down node reading (input_of asked) Rest events
      → events ≡ unless_down down node reading (input_of asked) others
  down_one true Rest events others one h = h
  down_one false Rest events others one h = one h

  served_one : (events : List Event) → CanAllCome w events → AreDetermined events → IsServed w node reading asked events
      → events ≡ events_of_call w node reading (told_by events) asked
  served_one events can plain h =
      down_one (is_down w node (input_of asked)) (IsBehindTakeover w node reading asked (takes_over w (input_of asked)) events) events
      (behind_takeover w node reading asked (told_by events) (takes_over w (input_of asked))) (behind_one events can plain (takes_over w (input_of asked))) h

-- ---- turns

whole_turn : (t : Turn) (because : Why) (events : List Event) → t.why ≡ because → t.events ≡ events → t ≡ record { node = t.node; why = because; moment = t.moment; events = events }
whole_turn t because events same_why same_events =
    let first : t ≡ record t { why = because } = ap (λ (x : Why). record t { why = x }) same_why in
    first ∙ ap (λ (x : List Event). record t { why = because; events = x }) same_events

pub turn_one : (w : World) (asked : Call) (t : Turn) → IsTurnOf w asked t → AreDetermined t.events
    → t ≡ turn_of w t.node t.moment (told_by t.events) asked
turn_one w asked t h plain =
    whole_turn t (why_of asked) (events_of_call w t.node t.moment (told_by t.events) asked) h.0.why_is
    (served_one w t.node t.moment asked t.events h.0.can_come plain h.1)

pub turns_one : (w : World) (asked : Call) (t u : Turn) → t.node ≡ u.node → t.moment ≡ u.moment → told_by t.events ≡ told_by u.events
    → IsTurnOf w asked t → IsTurnOf w asked u → AreDetermined t.events → AreDetermined u.events → t ≡ u
turns_one w asked t u same_node same_moment same_told first second plain plain_too =
    turn_one w asked t first plain
    ∙ ap (λ n. turn_of w n t.moment (told_by t.events) asked) same_node
    ∙ ap (λ m. turn_of w u.node m (told_by t.events) asked) same_moment
    ∙ ap (λ k. turn_of w u.node u.moment k asked) same_told
    ∙ sym (turn_one w asked u second plain_too)
