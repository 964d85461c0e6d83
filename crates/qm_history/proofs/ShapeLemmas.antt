-- A turn has one event or two.
use Rattle.std.proofs.Common.{◌≡◌, ℕ, inl, inr, Bool, true, false, cond, not, ◌||◌, List, [], ◌∷◌, refl, sym, ◌∙◌, ap, subst, Option, None, Some, Ok, Err, ◌==◌, IfSome, is_none, Result}
use Rattle.qm_history.specs.Common.{Input, Query, Row, Refusal, Reply, Request, applied, Accepted, view, input_of, acting, IsLegalTurn, after_event, system_in, role_in, held_by}
use Rattle.qm_kinds.specs.declared.input.Input.TheVariants as input
use Rattle.qm_kinds.specs.declared.request.Request.TheVariants as request
use Rattle.qm_history.specs.declared.call.Call.{Call}
use Rattle.qm_history.specs.declared.call.Call.TheVariants as call
use Rattle.qm_history.specs.declared.event.Event.{Event}
use Rattle.qm_history.specs.declared.event.Event.TheVariants as event
use Rattle.qm_history.specs.declared.turn.Turn.{Turn}
use Rattle.qm_history.specs.declared.world.Role.{Role}
use Rattle.qm_history.specs.declared.world.World.{World}
use Rattle.qm_history.specs.Happening.{is_takeover, may_come_first, AreOneOrTwo}
use Rattle.qm_history.specs.Takeover.{takes_over, nodes_on, is_named, IsFailure, StandsOrFails, UnlessRefused, TakesOverThen}
use Rattle.qm_history.specs.Turn.{Nothing, ATakeover, fence, FencedOr, IsRecorded, IsDecided, IsAsked, IsViewed, IsCompaction, IsChange, IsFull, start_refusal, IsStarted, has_other_manager, loss_of, IsLost, IsStopped, IsLeftFull, IsLeft, IsGoing, IsOwn, IsBehindTakeover, UnlessDown, is_down}

-- one event that is no takeover
abbrev pub IsOne : List Event → Type 0
IsOne [] = ⊥
IsOne (e ∷ []) = is_takeover e ≡ false
IsOne (e ∷ next ∷ events) = ⊥

-- no event, or such a one
abbrev pub IsOneAtMost : List Event → Type 0
IsOneAtMost [] = Unit {0}
IsOneAtMost (e ∷ []) = is_takeover e ≡ false
IsOneAtMost (e ∷ next ∷ events) = ⊥

one_of_turn : (events : List Event) → IsOne events → AreOneOrTwo events
one_of_turn [] h = absurd h
one_of_turn (e ∷ []) h = tt
one_of_turn (e ∷ next ∷ events) h = absurd h

one_at_most : (events : List Event) → IsOne events → IsOneAtMost events
one_at_most [] h = absurd h
one_at_most (e ∷ []) h = h
one_at_most (e ∷ next ∷ events) h = absurd h

behind_first : (e : Event) → may_come_first e ≡ true → (events : List Event) → IsOneAtMost events → AreOneOrTwo (e ∷ events)
behind_first e may [] h = tt
behind_first e may (next ∷ []) h = (may, h)
behind_first e may (next ∷ other ∷ events) h = absurd h

pub is_one : (e : Event) → is_takeover e ≡ false → (events : List Event) → events ≡ e ∷ [] → IsOne events
is_one e plain events h = subst IsOne (sym h) plain

-- ---- what each kind of answer holds

recorded_one : (node moment : ℕ) (asked : Request) (reply : Reply) (events : List Event) → IsRecorded node moment asked reply events → IsOne events
recorded_one node moment asked reply (event.Done n m r told ∷ []) h = refl
recorded_one node moment asked reply (event.Doubt n m r ∷ []) h = refl
recorded_one node moment asked reply (event.Full n need cap ∷ []) h = refl
recorded_one node moment asked reply events h = absurd h

decided_one : (node moment : ℕ) (asked : Request) (res : Result Accepted Refusal) (events : List Event) → IsDecided node moment asked res events → IsOne events
decided_one node moment asked (Err refusal) events h = is_one (event.Refused node moment (input.Ask asked) refusal) refl events h
decided_one node moment asked (Ok accepted) events h = recorded_one node moment asked accepted.reply events h

pub asked_one : (w : World) (node reading : ℕ) (asked : Request) (events : List Event) → IsAsked w node reading asked events → IsOne events
asked_one w node reading asked events h =
    decided_one node (acting reading (system_in w)) asked (applied (system_in w) (acting reading (system_in w)) node asked) events h

pub viewed_one : (node moment : ℕ) (query : Query) (res : Result (List Row) Refusal) (events : List Event) → IsViewed node moment query res events → IsOne events
viewed_one node moment query (Err refusal) events h = is_one (event.Refused node moment (input.Show query) refusal) refl events h
viewed_one node moment query (Ok rows) events h = is_one (event.Shown node moment (input.Show query)) refl events h

pub compaction_one : (node : ℕ) (events : List Event) → IsCompaction node events → IsOne events
compaction_one node (event.Compacted n epoch file ∷ []) h = refl
compaction_one node (event.Full n need cap ∷ []) h = refl
compaction_one node (event.CompactDoubt n ∷ []) h = refl
compaction_one node events h = absurd h

pub full_one : (node : ℕ) (events : List Event) → IsFull node events → IsOne events
full_one node (event.Full n need cap ∷ []) h = refl
full_one node events h = absurd h

left_full_two : (node : ℕ) (events : List Event) → IsLeftFull node events → AreOneOrTwo events
left_full_two node (event.Left n ∷ event.Full m need cap ∷ []) h = (refl, refl)
left_full_two node events h = absurd h

change_two : (first : Event) → may_come_first first ≡ true → (node moment : ℕ) (asked : Request) (res : Result Accepted Refusal) (events : List Event) → IsChange first node moment asked res events
    → AreOneOrTwo events
change_two first may node moment asked (Err refusal) events h = absurd h
change_two first may node moment asked (Ok accepted) (e ∷ event.Done n m r told ∷ []) h = (ap may_come_first h.0 ∙ may, refl)
change_two first may node moment asked (Ok accepted) (e ∷ event.Doubt n m r ∷ []) h = (ap may_come_first h.0 ∙ may, refl)
change_two first may node moment asked (Ok accepted) events h = absurd h

started_two : (w : World) (node moment : ℕ) (refusal : Option Refusal) (events : List Event) → IsStarted w node moment Nothing refusal events → AreOneOrTwo events
started_two w node moment (Some refusal) events h = one_of_turn events (is_one (event.Refused node moment input.StartNode refusal) refl events h)
started_two w node moment None events (inl h) = change_two (event.Started node) refl node moment request.NodeUp (applied (system_in w) moment node request.NodeUp) events h
started_two w node moment None events (inr h) = one_of_turn events (full_one node events h)

started_one : (w : World) (node moment : ℕ) (refusal : Option Refusal) (events : List Event) → IsStarted w node moment ATakeover refusal events → IsOne events
started_one w node moment (Some refusal) events h = is_one (event.Refused node moment input.StartNode refusal) refl events h
started_one w node moment None events h = is_one (event.Started node) refl events h

lost_two : (first : Event) → may_come_first first ≡ true → (w : World) (node moment : ℕ) (events : List Event) → IsLost first w node moment events → AreOneOrTwo events
lost_two first may w node moment events h = change_two first may node moment (loss_of w node) (applied (system_in w) moment node (loss_of w node)) events h

stopped_two : (w : World) (node moment : ℕ) (other : Bool) (events : List Event) → IsStopped w node moment other events → AreOneOrTwo events
stopped_two w node moment false events h = one_of_turn events (is_one (event.Stopped node) refl events h)
stopped_two w node moment true events (inl h) = lost_two (event.Stopped node) refl w node moment events h
stopped_two w node moment true events (inr h) = one_of_turn events (full_one node events h)

left_two : (w : World) (node moment : ℕ) (other : Bool) (events : List Event) → IsLeft w node moment other events → AreOneOrTwo events
left_two w node moment false events h = one_of_turn events (is_one (event.Left node) refl events h)
left_two w node moment true events (inl h) = lost_two (event.Left node) refl w node moment events h
left_two w node moment true events (inr h) = left_full_two node events h

going_two : (w : World) (node moment : ℕ) (asked : Call) (events : List Event) → IsGoing w node moment asked events → AreOneOrTwo events
going_two w node moment call.Leave events h = left_two w node moment (has_other_manager w node) events h
going_two w node moment _ events h = stopped_two w node moment (has_other_manager w node) events h

-- ---- a call's own events

fence_test : (node held epoch : ℕ) (b : Bool) → IfSome (cond b None (Some (event.Fenced node held epoch))) (λ e. is_takeover e ≡ false)
fence_test node held epoch true = tt
fence_test node held epoch false = refl

pub fence_plain : (w : World) (node : ℕ) (m : Option Role) → IfSome (fence (record w { manager = m }) node) (λ e. is_takeover e ≡ false)
fence_plain w node None = tt
fence_plain w node (Some role) = fence_test node (held_by w node) role.epoch (held_by w node == role.epoch)

pub fenced_one : (o : Option Event) (Own : Type 0) (events : List Event) → IfSome o (λ e. is_takeover e ≡ false) → (Own → IsOne events) → FencedOr o Own events → IsOne events
fenced_one None Own events plain one h = one h
fenced_one (Some e) Own events plain one h = is_one e plain events h

own_two : (w : World) (node reading : ℕ) (asked : Call) (takes : Bool) (what : Input) (events : List Event) → takes_over w what ≡ false → IsOwn w node reading asked Nothing what events → AreOneOrTwo events
own_two w node reading asked takes (input.Ask request.Tick) events none h =
    one_of_turn events (fenced_one (fence w node) (IsAsked w node reading request.Tick events) events (fence_plain w node w.manager) (asked_one w node reading request.Tick events) h)
own_two w node reading asked takes (input.Ask r) events none h = one_of_turn events (asked_one w node reading r events h)
own_two w node reading asked takes (input.Show query) events none h =
    one_of_turn events (viewed_one node (acting reading (system_in w)) query (view (system_in w) (role_in w) query) events h)
own_two w node reading asked takes (input.Fetch known) events none h = one_of_turn events (is_one (event.Shown node (acting reading (system_in w)) (input.Fetch known)) refl events h)
own_two w node reading asked takes input.Compact events none h =
    one_of_turn events (fenced_one (fence w node) (IsCompaction node events) events (fence_plain w node w.manager) (compaction_one node events) h)
own_two w node reading asked takes (input.TakeManager on) events none h = cc
own_two w node reading asked takes input.StartNode events none h = started_two w node (acting reading (system_in w)) (start_refusal w node) events h
own_two w node reading asked takes input.StopNode events none h = going_two w node (acting reading (system_in w)) asked events h
own_two w node reading asked takes (input.Fault place kind) events none h = subst AreOneOrTwo (sym h) tt

own_one : (before w : World) (node reading : ℕ) (asked : Call) (what : Input) (events : List Event) → takes_over before what ≡ true → IsOwn w node reading asked ATakeover what events → IsOneAtMost events
own_one before w node reading asked (input.Ask request.Tick) events takes h =
    one_at_most events (fenced_one (fence w node) (IsAsked w node reading request.Tick events) events (fence_plain w node w.manager) (asked_one w node reading request.Tick events) h)
own_one before w node reading asked (input.Ask r) events takes h = one_at_most events (asked_one w node reading r events h)
own_one before w node reading asked (input.Show query) events takes h =
    one_at_most events (viewed_one node (acting reading (system_in w)) query (view (system_in w) (role_in w) query) events h)
own_one before w node reading asked (input.Fetch known) events takes h = one_at_most events (is_one (event.Shown node (acting reading (system_in w)) (input.Fetch known)) refl events h)
own_one before w node reading asked input.Compact events takes h =
    one_at_most events (fenced_one (fence w node) (IsCompaction node events) events (fence_plain w node w.manager) (compaction_one node events) h)
own_one before w node reading asked (input.TakeManager on) events takes h = subst IsOneAtMost (sym h) tt
own_one before w node reading asked input.StartNode events takes h = one_at_most events (started_one w node (acting reading (system_in w)) (start_refusal w node) events h)
own_one before w node reading asked input.StopNode events takes h = cc
own_one before w node reading asked (input.Fault place kind) events takes h = cc

-- ---- takeovers

failure_one : (before w : World) (node reading : ℕ) (on : Option (List (List ℕ))) (tried : ℕ) (events : List Event) → IsFailure before w node reading on tried events → IsOneAtMost events
failure_one before w node reading on tried [] h = tt
failure_one before w node reading on tried (event.Doubt n moment (request.Took epoch gone up may) ∷ []) h = refl
failure_one before w node reading on tried (event.Full n need cap ∷ []) h = refl
failure_one before w node reading on tried (event.NoManager n ∷ []) h = refl
failure_one before w node reading on tried events h = absurd h

module _ (w : World) (node reading : ℕ) (on : Option (List (List ℕ))) (Then : World → List Event → Type 0) (one : (v : World) (events : List Event) → Then v events → IsOneAtMost events) where
  stands_two : (events : List Event) → StandsOrFails w node reading on Then events → AreOneOrTwo events
  stands_two (event.Took n moment epoch gone up may kept ∷ events) h =
      behind_first (event.Took n moment epoch gone up may kept) refl events (one (after_event w (event.Took n moment epoch gone up may kept)) events h.3)
  stands_two (event.TakeDoubt n tried kept ∷ events) h =
      behind_first (event.TakeDoubt n tried kept) refl events (failure_one w (after_event w (event.TakeDoubt n tried kept)) node reading on tried events h.1)
  stands_two events h = absurd h

  refused_two : (refused : Bool) (events : List Event) → UnlessRefused refused node (StandsOrFails w node reading on Then events) events → AreOneOrTwo events
  refused_two true events h = subst AreOneOrTwo (sym h) tt
  refused_two false events h = stands_two events h

  takeover_two : (events : List Event) → TakesOverThen w node reading on Then events → AreOneOrTwo events
  takeover_two events h = refused_two (not (is_none w.manager || is_named (system_in w) on node)) events h

-- ---- a turn

module _ (w : World) (node reading : ℕ) (asked : Call) (events : List Event) where
  behind_two : (takes : Bool) → takes_over w (input_of asked) ≡ takes → IsBehindTakeover w node reading asked takes events → AreOneOrTwo events
  behind_two false is h = own_two w node reading asked false (input_of asked) events is h
  behind_two true is h =
      takeover_two w node reading (nodes_on (input_of asked)) (λ after own. IsOwn after node reading asked ATakeover (input_of asked) own)
      (λ v own h. own_one w v node reading asked (input_of asked) own is h) events h

  down_two : (down : Bool) → UnlessDown down node reading (input_of asked) (IsBehindTakeover w node reading asked (takes_over w (input_of asked)) events) events → AreOneOrTwo events
  down_two true h = subst AreOneOrTwo (sym h) tt
  down_two false h = behind_two (takes_over w (input_of asked)) refl h

pub turn_two : (w : World) (t : Turn) → IsLegalTurn w t → AreOneOrTwo t.events
turn_two w t (asked, inl whole) = down_two w t.node t.moment asked t.events (is_down w t.node (input_of asked)) whole.1
turn_two w t (asked, inr short) =
    takeover_two w t.node t.moment (nodes_on (input_of asked)) (λ after own. own ≡ []) (λ v own h. subst IsOneAtMost (sym h) tt) t.events short.1.2
