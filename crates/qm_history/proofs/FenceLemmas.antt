-- A fence stands alone in its turn.
use Rattle.std.proofs.Common.{◌≡◌, ℕ, zero, suc, ◌<◌, ◌⊎◌, inl, inr, Bool, true, false, cond, not, ◌||◌, List, [], ◌∷◌, length, refl, sym, ◌∙◌, ap, subst, arith, Option, None, Some, Ok, Err, ◌==◌, IfSome, is_none, Result, slice_get, slice_set, unwrap_or}
use Rattle.std.proofs.lemmas.Bool.Decides.{nat_tests}
use Rattle.qm_history.specs.Common.{Input, Query, Row, Refusal, Reply, Request, applied, Accepted, view, input_of, acting, after_turn, IsLegalTurn, after_event, after_events, system_in, role_in, held_by, IsSound}
use Rattle.qm_kinds.specs.declared.input.Input.TheVariants as input
use Rattle.qm_kinds.specs.declared.request.Request.TheVariants as request
use Rattle.qm_history.specs.declared.call.Call.{Call}
use Rattle.qm_history.specs.declared.call.Call.TheVariants as call
use Rattle.qm_history.specs.declared.event.Event.{Event}
use Rattle.qm_history.specs.declared.event.Event.TheVariants as event
use Rattle.qm_history.specs.declared.turn.Turn.{Turn}
use Rattle.qm_history.specs.declared.world.Role.{Role}
use Rattle.qm_history.specs.declared.world.World.{World}
use Rattle.qm_history.specs.Happening.{is_fence, has_fence}
use Rattle.qm_history.specs.Takeover.{takes_over, nodes_on, is_named, IsFailure, StandsOrFails, UnlessRefused, TakesOverThen}
use Rattle.qm_history.specs.Turn.{Beside, Nothing, ATakeover, fence, FencedOr, IsRecorded, IsDecided, IsAsked, IsViewed, IsCompaction, IsChange, IsFull, start_refusal, IsComeUp, IsStarted, has_other_manager, loss_of, IsLost, IsStopped, IsLeftFull, IsLeft, IsGoing, IsOwn, IsBehindTakeover, UnlessDown, is_down, IsServed}

-- ---- what each kind of answer holds

recorded_quiet : (node moment : ℕ) (asked : Request) (reply : Reply) (events : List Event) → IsRecorded node moment asked reply events → has_fence events ≡ false
recorded_quiet node moment asked reply (event.Done n m r told ∷ []) h = refl
recorded_quiet node moment asked reply (event.Doubt n m r ∷ []) h = refl
recorded_quiet node moment asked reply (event.Full n need cap ∷ []) h = refl
recorded_quiet node moment asked reply events h = absurd h

decided_quiet : (node moment : ℕ) (asked : Request) (res : Result Accepted Refusal) (events : List Event) → IsDecided node moment asked res events → has_fence events ≡ false
decided_quiet node moment asked (Err refusal) events h = ap has_fence h
decided_quiet node moment asked (Ok accepted) events h = recorded_quiet node moment asked accepted.reply events h

asked_quiet : (w : World) (node reading : ℕ) (asked : Request) (events : List Event) → IsAsked w node reading asked events → has_fence events ≡ false
asked_quiet w node reading asked events h =
    decided_quiet node (acting reading (system_in w)) asked (applied (system_in w) (acting reading (system_in w)) node asked) events h

viewed_quiet : (node moment : ℕ) (query : Query) (res : Result (List Row) Refusal) (events : List Event) → IsViewed node moment query res events → has_fence events ≡ false
viewed_quiet node moment query (Err refusal) events h = ap has_fence h
viewed_quiet node moment query (Ok rows) events h = ap has_fence h

compaction_quiet : (node : ℕ) (events : List Event) → IsCompaction node events → has_fence events ≡ false
compaction_quiet node (event.Compacted n epoch file ∷ []) h = refl
compaction_quiet node (event.Full n need cap ∷ []) h = refl
compaction_quiet node (event.CompactDoubt n ∷ []) h = refl
compaction_quiet node events h = absurd h

full_quiet : (node : ℕ) (events : List Event) → IsFull node events → has_fence events ≡ false
full_quiet node (event.Full n need cap ∷ []) h = refl
full_quiet node events h = absurd h

left_full_quiet : (node : ℕ) (events : List Event) → IsLeftFull node events → has_fence events ≡ false
left_full_quiet node (event.Left n ∷ event.Full m need cap ∷ []) h = refl
left_full_quiet node events h = absurd h

change_quiet : (first : Event) → is_fence first ≡ false → (node moment : ℕ) (asked : Request) (res : Result Accepted Refusal) (events : List Event) → IsChange first node moment asked res events
    → has_fence events ≡ false
change_quiet first quiet node moment asked (Err refusal) events h = absurd h
change_quiet first quiet node moment asked (Ok accepted) (e ∷ event.Done n m r told ∷ []) h =
    let same : is_fence e ≡ false = ap is_fence h.0 ∙ quiet in ap (λ b. b || (false || false)) same
change_quiet first quiet node moment asked (Ok accepted) (e ∷ event.Doubt n m r ∷ []) h =
    let same : is_fence e ≡ false = ap is_fence h.0 ∙ quiet in ap (λ b. b || (false || false)) same
change_quiet first quiet node moment asked (Ok accepted) events h = absurd h

up_quiet : (w : World) (node moment : ℕ) (beside : Beside) (events : List Event) → IsComeUp w node moment beside events → has_fence events ≡ false
up_quiet w node moment ATakeover events h = ap has_fence h
up_quiet w node moment Nothing events (inl h) = change_quiet (event.Started node) refl node moment request.NodeUp (applied (system_in w) moment node request.NodeUp) events h
up_quiet w node moment Nothing events (inr h) = full_quiet node events h

started_quiet : (w : World) (node moment : ℕ) (beside : Beside) (refusal : Option Refusal) (events : List Event) → IsStarted w node moment beside refusal events → has_fence events ≡ false
started_quiet w node moment beside (Some refusal) events h = ap has_fence h
started_quiet w node moment beside None events h = up_quiet w node moment beside events h

lost_quiet : (first : Event) → is_fence first ≡ false → (w : World) (node moment : ℕ) (events : List Event) → IsLost first w node moment events → has_fence events ≡ false
lost_quiet first quiet w node moment events h = change_quiet first quiet node moment (loss_of w node) (applied (system_in w) moment node (loss_of w node)) events h

stopped_quiet : (w : World) (node moment : ℕ) (other : Bool) (events : List Event) → IsStopped w node moment other events → has_fence events ≡ false
stopped_quiet w node moment false events h = ap has_fence h
stopped_quiet w node moment true events (inl h) = lost_quiet (event.Stopped node) refl w node moment events h
stopped_quiet w node moment true events (inr h) = full_quiet node events h

left_quiet : (w : World) (node moment : ℕ) (other : Bool) (events : List Event) → IsLeft w node moment other events → has_fence events ≡ false
left_quiet w node moment false events h = ap has_fence h
left_quiet w node moment true events (inl h) = lost_quiet (event.Left node) refl w node moment events h
left_quiet w node moment true events (inr h) = left_full_quiet node events h

going_quiet : (w : World) (node moment : ℕ) (asked : Call) (events : List Event) → IsGoing w node moment asked events → has_fence events ≡ false
going_quiet w node moment call.Leave events h = left_quiet w node moment (has_other_manager w node) events h
going_quiet w node moment _ events h = stopped_quiet w node moment (has_other_manager w node) events h

-- ---- a call's own events hold no fence, or the fence alone

abbrev FenceAlone : Option Event → List Event → Type 0
FenceAlone o events = (has_fence events ≡ false) ⊎ ((e : Event) × (o ≡ Some e) × (events ≡ e ∷ []))

fenced_at : (o : Option Event) (Own : Type 0) (events : List Event) → (Own → has_fence events ≡ false) → FencedOr o Own events → FenceAlone o events
fenced_at None Own events quiet h = inl (quiet h)
fenced_at (Some e) Own events quiet h = inr (e, refl, h)

own_quiet : (w : World) (node reading : ℕ) (asked : Call) (beside : Beside) (what : Input) (events : List Event) → IsOwn w node reading asked beside what events → FenceAlone (fence w node) events
own_quiet w node reading asked beside (input.Ask request.Tick) events h =
    fenced_at (fence w node) (IsAsked w node reading request.Tick events) events (asked_quiet w node reading request.Tick events) h
own_quiet w node reading asked beside (input.Ask r) events h = inl (asked_quiet w node reading r events h)
own_quiet w node reading asked beside (input.Show query) events h =
    inl (viewed_quiet node (acting reading (system_in w)) query (view (system_in w) (role_in w) query) events h)
own_quiet w node reading asked beside input.Compact events h = fenced_at (fence w node) (IsCompaction node events) events (compaction_quiet node events) h
own_quiet w node reading asked beside input.StartNode events h =
    inl (started_quiet w node (acting reading (system_in w)) beside (start_refusal w node) events h)
own_quiet w node reading asked beside input.StopNode events h = inl (going_quiet w node (acting reading (system_in w)) asked events h)
own_quiet w node reading asked beside _ events h = inl (ap has_fence h)

-- ---- behind a takeover there is no fence

get_set : (xs : List ℕ) (i x : ℕ) → i < length xs → slice_get (slice_set xs i x) i ≡ Some x
get_set [] i x within = absurd (omega (arith, within))
get_set (y ∷ xs) zero x within = refl
get_set (y ∷ xs) (suc i) x within = get_set xs i x (omega arith)

equal_itself : (a b : ℕ) → a ≡ b → (a == b) ≡ true
equal_itself a b h = grind (arith, nat_tests)

no_fence : (w : World) (node moment epoch : ℕ) (gone up may : List (List ℕ)) (kept : Option Bool) → node < length w.held
    → fence (after_event w (event.Took node moment epoch gone up may kept)) node ≡ None
no_fence w node moment epoch gone up may kept within =
    let v : World = after_event w (event.Took node moment epoch gone up may kept) in
    let held : held_by v node ≡ epoch = ap (λ (o : Option ℕ). unwrap_or o 0) (get_set w.held node epoch within) in
    ap (λ b. cond b None (Some (event.Fenced node (held_by v node) epoch))) (equal_itself (held_by v node) epoch held)

none_alone : (o : Option Event) (events : List Event) → o ≡ None → FenceAlone o events → has_fence events ≡ false
none_alone o events none (inl h) = h
none_alone o events none (inr (e, is, alone)) = cc

failure_quiet : (before w : World) (node reading : ℕ) (on : Option (List (List ℕ))) (tried : ℕ) (events : List Event) → IsFailure before w node reading on tried events → has_fence events ≡ false
failure_quiet before w node reading on tried [] h = refl
failure_quiet before w node reading on tried (event.Doubt n moment (request.Took epoch gone up may) ∷ []) h = refl
failure_quiet before w node reading on tried (event.Full n need cap ∷ []) h = refl
failure_quiet before w node reading on tried (event.NoManager n ∷ []) h = refl
failure_quiet before w node reading on tried events h = absurd h

module _ (w : World) (node reading : ℕ) (on : Option (List (List ℕ))) (within : node < length w.held) (Then : World → List Event → Type 0)
    (quiet : (v : World) (events : List Event) → fence v node ≡ None → Then v events → has_fence events ≡ false)
  where
    stands_quiet : (events : List Event) → StandsOrFails w node reading on Then events → has_fence events ≡ false
    stands_quiet (event.Took n moment epoch gone up may kept ∷ events) h =
        quiet (after_event w (event.Took n moment epoch gone up may kept)) events
        (subst (λ m. fence (after_event w (event.Took m moment epoch gone up may kept)) node ≡ None) (sym h.0) (no_fence w node moment epoch gone up may kept within)) h.3
    stands_quiet (event.TakeDoubt n tried kept ∷ events) h =
        failure_quiet w (after_event w (event.TakeDoubt n tried kept)) node reading on tried events h.1
    stands_quiet events h = absurd h

    refused_quiet : (refused : Bool) (events : List Event) → UnlessRefused refused node (StandsOrFails w node reading on Then events) events → has_fence events ≡ false
    refused_quiet true events h = ap has_fence h
    refused_quiet false events h = stands_quiet events h

    takeover_quiet : (events : List Event) → TakesOverThen w node reading on Then events → has_fence events ≡ false
    takeover_quiet events h = refused_quiet (not (is_none w.manager || is_named (system_in w) on node)) events h

-- ---- a turn

at_test : (w : World) (node held epoch : ℕ) (b : Bool) → IfSome (cond b None (Some (event.Fenced node held epoch))) (λ e. after_event w e ≡ w)
at_test w node held epoch true = tt
at_test w node held epoch false = refl

fence_stays_at : (w : World) (node : ℕ) (m : Option Role) → IfSome (fence (record w { manager = m }) node) (λ e. after_event w e ≡ w)
fence_stays_at w node None = tt
fence_stays_at w node (Some role) = at_test w node (held_by w node) role.epoch (held_by w node == role.epoch)

alone_stays : (w : World) (o : Option Event) (events : List Event) → IfSome o (λ e. after_event w e ≡ w) → has_fence events ≡ true → FenceAlone o events → after_events w events ≡ w
alone_stays w o events stays fenced (inl none) = cc
alone_stays w o events stays fenced (inr (e, is, alone)) =
    let one : after_event w e ≡ w = subst (λ x. IfSome x (λ e. after_event w e ≡ w)) is stays in ap (after_events w) alone ∙ one

module _ (w : World) (node reading : ℕ) (asked : Call) (within : node < length w.held) (events : List Event) (fenced : has_fence events ≡ true) where
  behind_at : (takes : Bool) → IsBehindTakeover w node reading asked takes events → after_events w events ≡ w
  behind_at false h = alone_stays w (fence w node) events (fence_stays_at w node w.manager) fenced (own_quiet w node reading asked Nothing (input_of asked) events h)
  behind_at true h =
      let none : has_fence events ≡ false =
      takeover_quiet w node reading (nodes_on (input_of asked)) within (λ after own. IsOwn after node reading asked ATakeover (input_of asked) own)
      (λ v own unfenced h. none_alone (fence v node) own unfenced (own_quiet v node reading asked ATakeover (input_of asked) own h)) events h in
      cc

  down_at : (down : Bool) → UnlessDown down node reading (input_of asked) (IsBehindTakeover w node reading asked (takes_over w (input_of asked)) events) events → after_events w events ≡ w
  down_at true h = ap (after_events w) h
  down_at false h = behind_at (takes_over w (input_of asked)) h

  served_fenced_stays : IsServed w node reading asked events → after_events w events ≡ w
  served_fenced_stays h = down_at (is_down w node (input_of asked)) h

  nothing_quiet : (v : World) (own : List Event) → fence v node ≡ None → own ≡ [] → has_fence own ≡ false
  nothing_quiet v own unfenced h = ap has_fence h

  short_fenced_stays : TakesOverThen w node reading (nodes_on (input_of asked)) (λ after own. own ≡ []) events → after_events w events ≡ w
  short_fenced_stays h =
      let none : has_fence events ≡ false = takeover_quiet w node reading (nodes_on (input_of asked)) within (λ after own. own ≡ []) nothing_quiet events h in cc

pub fenced_stays : (w : World) (t : Turn) → IsSound w → IsLegalTurn w t → has_fence t.events ≡ true → after_turn w t ≡ w
fenced_stays w t sound (asked, inl whole) fenced =
    served_fenced_stays w t.node t.moment asked (subst (λ n. t.node < n) (sym sound.held) whole.0.node_there) t.events fenced whole.1
fenced_stays w t sound (asked, inr short) fenced =
    short_fenced_stays w t.node t.moment asked (subst (λ n. t.node < n) (sym sound.held) short.0.node_there) t.events fenced short.1.2
