-- Who is live behind the events of a call.
use Rattle.std.proofs.Common.{◌≡◌, ◌≢◌, ℕ, zero, suc, ◌<◌, inl, inr, Bool, true, false, not, cond, ◌||◌, ◌&&◌, List, [], ◌∷◌, length, refl, sym, ◌∙◌, ap, subst, Option, None, Some, Result, Ok, Err, ◌==◌, is_none, unwrap_or, slice_get, slice_set, option_and_then, get_or-set_same, get_or-set_other}
use Rattle.std.proofs.lemmas.Option.{unwrap_or-slice_get}
use Rattle.qm_history.specs.Common.{Input, Refusal, Reply, Request, Query, Row, acting, applied, Accepted, view, node_at, answer_of, events_answer, last_moment, taken_answer, takeover_of, input_of, request_of_report, after_turn, after_event, after_events, IsSound, held_by, is_live, role_in, system_in}
use Rattle.qm_kinds.specs.declared.input.Input.TheVariants as input
use Rattle.qm_kinds.specs.declared.request.Request.TheVariants as request
use Rattle.qm_history.specs.declared.call.Call.{Call}
use Rattle.qm_history.specs.declared.call.Call.TheVariants as call
use Rattle.qm_history.specs.declared.call.Takeover.{Takeover}
use Rattle.qm_history.specs.declared.event.Event.{Event}
use Rattle.qm_history.specs.declared.event.Event.TheVariants as event
use Rattle.qm_history.specs.declared.turn.Turn.{Turn}
use Rattle.qm_history.specs.declared.turn.Why.{Why}
use Rattle.qm_history.specs.declared.turn.Why.TheVariants as why
use Rattle.qm_history.specs.declared.world.Role.{Role}
use Rattle.qm_history.specs.declared.world.World.{World}
use Rattle.qm_history.specs.Takeover.{IsFailure, StandsOrFails, UnlessRefused, is_named, nodes_on, takes_over}
use Rattle.qm_history.specs.Turn.{ATakeover, Beside, FencedOr, IsAsked, IsBehindTakeover, IsChange, IsComeUp, IsCompaction, IsCutShort, IsDecided, IsFull, IsLeft, IsLeftFull, IsOwn, IsRecorded, IsServed, IsStarted, IsStopped, IsTurnOf, IsViewed, Nothing, UnlessDown, fence, fence_of, has_other_manager, is_down, loss_of, start_refusal}
use Rattle.qm_node.specs.declared.living.Presence.{Presence}
use Rattle.qm_node.specs.declared.living.Presence.TheVariants.{Comes, Stops, Leaves, Stays}
use Rattle.qm_node.specs.Living.{presence_of, presence_of_input, live_behind, live_done, live_full}

-- ---- one place of a list

pub set_there : (live : List Bool) (n : ℕ) (b : Bool) → n < length live → unwrap_or (slice_get (slice_set live n b) n) false ≡ b
set_there live n b within = unwrap_or-slice_get (slice_set live n b) n false ∙ get_or-set_same live n b false within

pub set_elsewhere : (live : List Bool) (n other : ℕ) (b : Bool) → other ≢ n → unwrap_or (slice_get (slice_set live n b) other) false ≡ unwrap_or (slice_get live other) false
set_elsewhere live n other b differs =
    unwrap_or-slice_get (slice_set live n b) other false ∙ get_or-set_other live n other b false differs ∙ sym (unwrap_or-slice_get live other false)

pub set_false : (live : List Bool) (n : ℕ) → unwrap_or (slice_get (slice_set live n false) n) false ≡ false
set_false [] n = refl
set_false (b ∷ live) zero = refl
set_false (b ∷ live) (suc n) = set_false live n

-- ---- events that leave the nodes as they are

-- What is claimed of events from a world on, of a call of this presence: the answer tells whether its node is live, and the other
-- nodes stay.
abbrev OwnTells : World → ℕ → Presence → Option Takeover → Why → ℕ → List Event → Type 0
OwnTells w n presence took because acted events = is_live (after_events w events) n ≡ live_behind (is_live w n) presence (events_answer w took because acted events)

abbrev OthersStay : World → ℕ → List Event → Type 0
OthersStay w n events = (other : ℕ) → other ≢ n → is_live (after_events w events) other ≡ is_live w other

abbrev Tells : World → ℕ → Presence → Option Takeover → Why → ℕ → List Event → Type 0
Tells w n presence took because acted events = OwnTells w n presence took because acted events × OthersStay w n events

others_same : (w : World) (n : ℕ) (other : ℕ) → other ≢ n → is_live w other ≡ is_live w other
others_same w n other differs = refl

module _ (w : World) (n : ℕ) (took : Option Takeover) (because : Why) (acted : ℕ) where
  abbrev Told : Presence → List Event → Type 0
  Told presence events = Tells w n presence took because acted events

  journal_tells : (presence : Presence) (m moment : ℕ) (asked : Request) → m ≡ n → Told presence (event.Doubt m moment asked ∷ [])
  journal_tells presence m moment asked same = (ap (λ k. is_live w k) (sym same), others_same w n)

  recorded_tells : (node moment : ℕ) (asked : Request) (reply : Reply) (events : List Event) → node ≡ n → IsRecorded node moment asked reply events → Told Stays events
  recorded_tells node moment asked reply (event.Done k m r told ∷ []) same h = (refl, others_same w n)
  recorded_tells node moment asked reply (event.Doubt k m r ∷ []) same h = journal_tells Stays k m r (h.0 ∙ same)
  recorded_tells node moment asked reply (event.Full k need cap ∷ []) same h = (refl, others_same w n)
  recorded_tells node moment asked reply events same h = absurd h

  refused_tells : (presence : Presence) (k m : ℕ) (asked : Input) (refusal : Refusal) (events : List Event) → events ≡ event.Refused k m asked refusal ∷ [] → Told presence events
  refused_tells presence k m asked refusal events is = subst (Told presence) (sym is) (refl, others_same w n)

  decided_tells : (moment : ℕ) (asked : Request) (found : Result Accepted Refusal) (events : List Event) → IsDecided n moment asked found events → Told Stays events
  decided_tells moment asked (Err refusal) events h = refused_tells Stays n moment (input.Ask asked) refusal events h
  decided_tells moment asked (Ok accepted) events h = recorded_tells n moment asked accepted.reply events refl h

  -- a fence holds one event, which is one of these
  abbrev IsFence : Option Event → Type 0
  IsFence None = Unit {0}
  IsFence (Some e) = (held : ℕ) × (current : ℕ) × (e ≡ event.Fenced n held current)

  fenced_or_tells : (f : Option Event) → IsFence f → (Own : Type 0) (events : List Event) → (Own → Told Stays events) → FencedOr f Own events → Told Stays events
  fenced_or_tells None is Own events own h = own h
  fenced_or_tells (Some e) is Own events own h =
      subst (Told Stays) (sym (h ∙ ap (λ (x : Event). x ∷ []) is.2)) (refl, others_same w n)

  fence_with : (role : Role) (b : Bool) → IsFence (cond b None (Some (event.Fenced n (held_by w n) role.epoch)))
  fence_with role true = tt
  fence_with role false = (held_by w n, role.epoch, refl)

  fence_in : (manager : Option Role) → IsFence (option_and_then (λ (role : Role). cond (held_by w n == role.epoch) None (Some (event.Fenced n (held_by w n) role.epoch))) manager)
  fence_in None = tt
  fence_in (Some role) = fence_with role (held_by w n == role.epoch)

  fence_is : IsFence (fence w n)
  fence_is = fence_in w.manager

  fence_of_is : (asked : Request) → IsFence (fence_of w n asked)
  fence_of_is request.Tick = fence_is
  fence_of_is asked = tt

  viewed_tells : (moment : ℕ) (query : Query) (found : Result (List Row) Refusal) (events : List Event) → IsViewed n moment query found events → Told Stays events
  viewed_tells moment query (Err refusal) events h = refused_tells Stays n moment (input.Show query) refusal events h
  viewed_tells moment query (Ok rows) events h = subst (Told Stays) (sym h) (refl, others_same w n)

  compaction_tells : (events : List Event) → IsCompaction n events → Told Stays events
  compaction_tells (event.Compacted k epoch file ∷ []) h = (refl, others_same w n)
  compaction_tells (event.Full k need cap ∷ []) h = (refl, others_same w n)
  compaction_tells (event.CompactDoubt k ∷ []) h = (ap (λ j. is_live w j) (sym h), others_same w n)
  compaction_tells events h = absurd h

  full_tells : (presence : Presence) (events : List Event) → live_full (is_live w n) presence ≡ is_live w n → IsFull n events → Told presence events
  full_tells presence (event.Full k need cap ∷ []) stays h = (sym stays, others_same w n)
  full_tells presence events stays h = absurd h

  -- ---- a node comes up or goes

  -- the node is so behind an event, and the others stay
  record Turns (e : Event) (then : Bool) : Type 0 where
    own : is_live (after_event w e) n ≡ then
    others : (other : ℕ) → other ≢ n → is_live (after_event w e) other ≡ is_live w other

  comes_up : (k : ℕ) → k ≡ n → n < length w.live → Turns (event.Started k) true
  comes_up k same within = record {
    own = subst (λ j. is_live (after_event w (event.Started j)) n ≡ true) (sym same) (set_there w.live n true within);
    others = subst (λ j. (other : ℕ) → other ≢ n → is_live (after_event w (event.Started j)) other ≡ is_live w other) (sym same) (λ other differs. set_elsewhere w.live n other true differs);
  }

  stops : (k : ℕ) → k ≡ n → Turns (event.Stopped k) false
  stops k same = record {
    own = subst (λ j. is_live (after_event w (event.Stopped j)) n ≡ false) (sym same) (set_false w.live n);
    others = subst (λ j. (other : ℕ) → other ≢ n → is_live (after_event w (event.Stopped j)) other ≡ is_live w other) (sym same) (λ other differs. set_elsewhere w.live n other false differs);
  }

  leaves : (k : ℕ) → k ≡ n → Turns (event.Left k) false
  leaves k same = record {
    own = subst (λ j. is_live (after_event w (event.Left j)) n ≡ false) (sym same) (set_false w.live n);
    others = subst (λ j. (other : ℕ) → other ≢ n → is_live (after_event w (event.Left j)) other ≡ is_live w other) (sym same) (λ other differs. set_elsewhere w.live n other false differs);
  }

  -- the event alone, with an answer that it was done
  alone_tells : (presence : Presence) (e : Event) (then : Bool) → Turns e then → live_behind (is_live w n) presence (events_answer w took because acted (e ∷ [])) ≡ then → Told presence (e ∷ [])
  alone_tells presence e then turned told = (turned.own ∙ sym told, turned.others)

  -- and with the record of it behind
  change_tells : (presence : Presence) (first : Event) (then : Bool) (node moment : ℕ) (asked : Request) (found : Result Accepted Refusal) (events : List Event) → node ≡ n → Turns first then
      → live_done (is_live w n) presence ≡ then → IsChange first node moment asked found events → Told presence events
  change_tells presence first then node moment asked (Err refusal) events same turned done h = absurd h
  change_tells presence first then node moment asked (Ok accepted) (e ∷ event.Done k m r told ∷ []) same turned done h =
      subst (λ x. Told presence (x ∷ event.Done k m r told ∷ [])) (sym h.0) (turned.own ∙ sym done, turned.others)
  change_tells presence first then node moment asked (Ok accepted) (e ∷ event.Doubt k m r ∷ []) same turned done h =
      subst (λ x. Told presence (x ∷ event.Doubt k m r ∷ [])) (sym h.0)
      (ap (λ j. is_live (after_event w first) j) (sym (h.1.0 ∙ same)), turned.others)
  change_tells presence first then node moment asked (Ok accepted) events same turned done h = absurd h

  come_up_tells : (moment : ℕ) (beside : Beside) (events : List Event) → n < length w.live → IsComeUp w n moment beside events → Told Comes events
  come_up_tells moment ATakeover events within h = subst (Told Comes) (sym h) (alone_tells Comes (event.Started n) true (comes_up n refl within) refl)
  come_up_tells moment Nothing events within (inl h) = change_tells Comes (event.Started n) true n moment request.NodeUp (applied (system_in w) moment n request.NodeUp) events refl (comes_up n refl within) refl h
  come_up_tells moment Nothing events within (inr h) = full_tells Comes events refl h

  started_tells : (moment : ℕ) (beside : Beside) (refusal : Option Refusal) (events : List Event) → n < length w.live → IsStarted w n moment beside refusal events → Told Comes events
  started_tells moment beside (Some refusal) events within h = refused_tells Comes n moment input.StartNode refusal events h
  started_tells moment beside None events within h = come_up_tells moment beside events within h

  stopped_tells : (moment : ℕ) (other : Bool) (events : List Event) → IsStopped w n moment other events → Told Stops events
  stopped_tells moment false events h = subst (Told Stops) (sym h) (alone_tells Stops (event.Stopped n) false (stops n refl) refl)
  stopped_tells moment true events (inl h) =
      change_tells Stops (event.Stopped n) false n moment (loss_of w n) (applied (system_in w) moment n (loss_of w n)) events refl (stops n refl) refl h
  stopped_tells moment true events (inr h) = full_tells Stops events refl h

  left_full_tells : (events : List Event) → IsLeftFull n events → Told Leaves events
  left_full_tells (event.Left k ∷ event.Full m need cap ∷ []) h = ((leaves k h.0).own, (leaves k h.0).others)
  left_full_tells events h = absurd h

  left_tells : (moment : ℕ) (other : Bool) (events : List Event) → IsLeft w n moment other events → Told Leaves events
  left_tells moment false events h = subst (Told Leaves) (sym h) (alone_tells Leaves (event.Left n) false (leaves n refl) refl)
  left_tells moment true events (inl h) =
      change_tells Leaves (event.Left n) false n moment (loss_of w n) (applied (system_in w) moment n (loss_of w n)) events refl (leaves n refl) refl h
  left_tells moment true events (inr h) = left_full_tells events h

  -- who leaves is live no more
  lost_down : (first : Event) (moment : ℕ) (asked : Request) (found : Result Accepted Refusal) (events : List Event) → Turns first false → IsChange first n moment asked found events
      → is_live (after_events w events) n ≡ false
  lost_down first moment asked (Err refusal) events turned h = absurd h
  lost_down first moment asked (Ok accepted) (e ∷ event.Done k m r told ∷ []) turned h = ap (λ (x : Event). is_live (after_event w x) n) h.0 ∙ turned.own
  lost_down first moment asked (Ok accepted) (e ∷ event.Doubt k m r ∷ []) turned h = ap (λ (x : Event). is_live (after_event w x) n) h.0 ∙ turned.own
  lost_down first moment asked (Ok accepted) events turned h = absurd h

  left_full_down : (events : List Event) → IsLeftFull n events → is_live (after_events w events) n ≡ false
  left_full_down (event.Left k ∷ event.Full m need cap ∷ []) h = (leaves k h.0).own
  left_full_down events h = absurd h

  left_down : (moment : ℕ) (other : Bool) (events : List Event) → IsLeft w n moment other events → is_live (after_events w events) n ≡ false
  left_down moment false events h = ap (λ (l : List Event). is_live (after_events w l) n) h ∙ (leaves n refl).own
  left_down moment true events (inl h) = lost_down (event.Left n) moment (loss_of w n) (applied (system_in w) moment n (loss_of w n)) events (leaves n refl) h
  left_down moment true events (inr h) = left_full_down events h

-- ---- a call's own events

module _ (w : World) (n reading : ℕ) (took : Option Takeover) (because : Why) (acted : ℕ) where
  own_asked : (asked : Call) (beside : Beside) (r : Request) (events : List Event) → IsOwn w n reading asked beside (input.Ask r) events → Tells w n Stays took because acted events
  own_asked asked beside r events h =
      fenced_or_tells w n took because acted (fence_of w n r) (fence_of_is w n took because acted r) (IsAsked w n reading r events) events
      (decided_tells w n took because acted (acting reading (system_in w)) r (applied (system_in w) (acting reading (system_in w)) n r) events) h

  own_of_line : (line : ℕ) (beside : Beside) (what : Input) (events : List Event) → n < length w.live → IsOwn w n reading (call.Line line what) beside what events
      → Tells w n (presence_of_input what) took because acted events
  own_of_line line beside (input.Ask r) events within h = own_asked (call.Line line (input.Ask r)) beside r events h
  own_of_line line beside (input.Show query) events within h =
      viewed_tells w n took because acted (acting reading (system_in w)) query (view (system_in w) (role_in w) query) events h
  own_of_line line beside (input.Fetch known) events within h = subst (Tells w n Stays took because acted) (sym h) (refl, others_same w n)
  own_of_line line beside input.Compact events within h =
      fenced_or_tells w n took because acted (fence w n) (fence_is w n took because acted) (IsCompaction n events) events (compaction_tells w n took because acted events) h
  own_of_line line beside (input.TakeManager on) events within h = subst (Tells w n Stays took because acted) (sym h) (refl, others_same w n)
  own_of_line line beside input.StartNode events within h =
      started_tells w n took because acted (acting reading (system_in w)) beside (start_refusal w n) events within h
  own_of_line line beside input.StopNode events within h =
      stopped_tells w n took because acted (acting reading (system_in w)) (has_other_manager w n) events h
  own_of_line line beside (input.Fault place kind) events within h = refused_tells w n took because acted Stays n reading (input.Fault place kind) _ events h

  own_tells : (asked : Call) (beside : Beside) (events : List Event) → n < length w.live → IsOwn w n reading asked beside (input_of asked) events → Tells w n (presence_of asked) took because acted events
  own_tells (call.Line line what) beside events within h = own_of_line line beside what events within h
  own_tells (call.Fetch known) beside events within h = subst (Tells w n Stays took because acted) (sym h) (refl, others_same w n)
  own_tells (call.Report run told) beside events within h = own_asked (call.Report run told) beside (request_of_report run told) events h
  own_tells call.Leave beside events within h = left_tells w n took because acted (acting reading (system_in w)) (has_other_manager w n) events h

-- ---- behind a takeover

-- a call that can take over doesn't go: where there is no room its node is live as before
full_stays : (w : World) (asked : Call) (live : Bool) → takes_over w (input_of asked) ≡ true → live_full live (presence_of asked) ≡ live
full_stays w (call.Line line (input.Ask r)) live takes = refl
full_stays w (call.Line line (input.Show query)) live takes = refl
full_stays w (call.Line line (input.Fetch known)) live takes = refl
full_stays w (call.Line line input.Compact) live takes = refl
full_stays w (call.Line line (input.TakeManager on)) live takes = refl
full_stays w (call.Line line input.StartNode) live takes = refl
full_stays w (call.Line line input.StopNode) live takes = refl
full_stays w (call.Line line (input.Fault place kind)) live takes = refl
full_stays w (call.Fetch known) live takes = refl
full_stays w (call.Report run told) live takes = refl
full_stays w call.Leave live takes = cc

-- a start has an event of its own
start_is_told : (w : World) (n moment : ℕ) (refusal : Option Refusal) → IsStarted w n moment ATakeover refusal [] → ⊥
start_is_told w n moment (Some refusal) h = cc
start_is_told w n moment None h = cc

-- where nothing follows a takeover that stands, the role was all that was asked for
role_alone : (w after : World) (n reading : ℕ) (asked : Call) (live : Bool) → takes_over w (input_of asked) ≡ true → IsOwn after n reading asked ATakeover (input_of asked) [] → live_done live (presence_of asked) ≡ live
role_alone w after n reading (call.Line line (input.Ask r)) live takes own = refl
role_alone w after n reading (call.Line line (input.Show query)) live takes own = refl
role_alone w after n reading (call.Line line (input.Fetch known)) live takes own = refl
role_alone w after n reading (call.Line line input.Compact) live takes own = refl
role_alone w after n reading (call.Line line (input.TakeManager on)) live takes own = refl
role_alone w after n reading (call.Line line input.StartNode) live takes own = absurd (start_is_told after n (acting reading (system_in after)) (start_refusal after n) own)
role_alone w after n reading (call.Line line input.StopNode) live takes own = cc
role_alone w after n reading (call.Line line (input.Fault place kind)) live takes own = refl
role_alone w after n reading (call.Fetch known) live takes own = refl
role_alone w after n reading (call.Report run told) live takes own = refl
role_alone w after n reading call.Leave live takes own = cc

module _ (w : World) (n reading : ℕ) (took : Option Takeover) (because : Why) (acted : ℕ) (asked : Call) (takes : takes_over w (input_of asked) ≡ true) where
  abbrev Asked : List Event → Type 0
  Asked events = Tells w n (presence_of asked) took because acted events

  failed_tells : (k tried : ℕ) (kept : Option Bool) (on : Option (List (List ℕ))) (after : World) (events : List Event) → k ≡ n → IsFailure w after n reading on tried events
      → Asked (event.TakeDoubt k tried kept ∷ events)
  failed_tells k tried kept on after [] same h = (ap (λ j. is_live w j) (sym same), others_same w n)
  failed_tells k tried kept on after (event.Doubt m moment (request.Took epoch gone up may) ∷ []) same h = (ap (λ j. is_live w j) (sym h.0), others_same w n)
  failed_tells k tried kept on after (event.Full m need cap ∷ []) same h = (sym (full_stays w asked (is_live w n) takes), others_same w n)
  failed_tells k tried kept on after (event.NoManager m ∷ []) same h = (refl, others_same w n)
  failed_tells k tried kept on after events same h = absurd h

  taken_answered : (moment : ℕ) (name : List ℕ) (epoch : ℕ) (why : Why) → live_done (is_live w n) (presence_of asked) ≡ is_live w n
      → is_live w n ≡ live_behind (is_live w n) (presence_of asked) (taken_answer took moment name epoch why)
  taken_answered moment name epoch (why.Line line) done = sym done
  taken_answered moment name epoch why.Fetch done = refl
  taken_answered moment name epoch why.Report done = refl
  taken_answered moment name epoch why.Leave done = refl

  stood_tells : (k moment epoch : ℕ) (gone up may : List (List ℕ)) (kept : Option Bool) (own : List Event) → n < length w.live
      → IsOwn (after_event w (event.Took k moment epoch gone up may kept)) n reading asked ATakeover (input_of asked) own → Asked (event.Took k moment epoch gone up may kept ∷ own)
  stood_tells k moment epoch gone up may kept [] within h = (
    taken_answered acted (node_at k (system_in w).nodes) epoch because
        (role_alone w (after_event w (event.Took k moment epoch gone up may kept)) n reading asked (is_live w n) takes h),
    others_same w n,
  )
  stood_tells k moment epoch gone up may kept (e ∷ events) within h =
      let told = own_tells (after_event w (event.Took k moment epoch gone up may kept)) n reading took because acted asked ATakeover (e ∷ events) within h in (told.0, told.1)

  taking_tells : (on : Option (List (List ℕ))) (events : List Event) → n < length w.live
      → StandsOrFails w n reading on (λ after own. IsOwn after n reading asked ATakeover (input_of asked) own) events → Asked events
  taking_tells on (event.Took k moment epoch gone up may kept ∷ own) within h = stood_tells k moment epoch gone up may kept own within h.3
  taking_tells on (event.TakeDoubt k tried kept ∷ events) within h = failed_tells k tried kept on (after_event w (event.TakeDoubt k tried kept)) events h.0 h.1
  taking_tells on events within h = absurd h

  unless_tells : (on : Option (List (List ℕ))) (refused : Bool) (events : List Event) → n < length w.live
      → UnlessRefused refused n (StandsOrFails w n reading on (λ after own. IsOwn after n reading asked ATakeover (input_of asked) own) events) events → Asked events
  unless_tells on true events within h = subst Asked (sym h) (refl, others_same w n)
  unless_tells on false events within h = taking_tells on events within h

-- ---- a call served whole

module _ (w : World) (n reading : ℕ) (took : Option Takeover) (because : Why) (acted : ℕ) (asked : Call) where
  behind_tells : (takes : Bool) (events : List Event) → n < length w.live → takes_over w (input_of asked) ≡ takes → IsBehindTakeover w n reading asked takes events
      → Tells w n (presence_of asked) took because acted events
  behind_tells false events within is h = own_tells w n reading took because acted asked Nothing events within h
  behind_tells true events within is h =
      unless_tells w n reading took because acted asked is (nodes_on (input_of asked)) (not (is_none w.manager || is_named (system_in w) (nodes_on (input_of asked)) n)) events within h

  down_tells : (down : Bool) (events : List Event) → n < length w.live
      → UnlessDown down n reading (input_of asked) (IsBehindTakeover w n reading asked (takes_over w (input_of asked)) events) events → Tells w n (presence_of asked) took because acted events
  down_tells true events within h = refused_tells w n took because acted (presence_of asked) n reading (input_of asked) _ events h
  down_tells false events within h = behind_tells (takes_over w (input_of asked)) events within refl h

  pub served_tells : (events : List Event) → n < length w.live → IsServed w n reading asked events → Tells w n (presence_of asked) took because acted events
  served_tells events within h = down_tells (is_down w n (input_of asked)) events within h

-- ---- a takeover alone

failed_stays : (w after : World) (n reading k tried : ℕ) (kept : Option Bool) (on : Option (List (List ℕ))) (events : List Event) → IsFailure w after n reading on tried events
    → OthersStay w n (event.TakeDoubt k tried kept ∷ events)
failed_stays w after n reading k tried kept on [] h = others_same w n
failed_stays w after n reading k tried kept on (event.Doubt m moment (request.Took epoch gone up may) ∷ []) h = others_same w n
failed_stays w after n reading k tried kept on (event.Full m need cap ∷ []) h = others_same w n
failed_stays w after n reading k tried kept on (event.NoManager m ∷ []) h = others_same w n
failed_stays w after n reading k tried kept on events h = absurd h

alone_stays : (w : World) (n reading : ℕ) (on : Option (List (List ℕ))) (events : List Event) → StandsOrFails w n reading on (λ after own. own ≡ []) events → OthersStay w n events
alone_stays w n reading on (event.Took k moment epoch gone up may kept ∷ own) h =
    subst (λ (o : List Event). OthersStay w n (event.Took k moment epoch gone up may kept ∷ o)) (sym h.3) (others_same w n)
alone_stays w n reading on (event.TakeDoubt k tried kept ∷ events) h = failed_stays w (after_event w (event.TakeDoubt k tried kept)) n reading k tried kept on events h.1
alone_stays w n reading on events h = absurd h

unless_stays : (w : World) (n reading : ℕ) (on : Option (List (List ℕ))) (refused : Bool) (events : List Event)
    → UnlessRefused refused n (StandsOrFails w n reading on (λ after own. own ≡ []) events) events → OthersStay w n events
unless_stays w n reading on true events h = subst (OthersStay w n) (sym h) (others_same w n)
unless_stays w n reading on false events h = alone_stays w n reading on events h

-- ---- turns

was_down : (live : Bool) → (not live && not false) ≡ true → live ≡ false
was_down true is = cc
was_down false is = refl

leave_down : (w : World) (n reading : ℕ) (down : Bool) (events : List Event) → is_down w n input.StopNode ≡ down
    → UnlessDown down n reading input.StopNode (IsBehindTakeover w n reading call.Leave false events) events → is_live (after_events w events) n ≡ false
leave_down w n reading true events is h = ap (λ (l : List Event). is_live (after_events w l) n) h ∙ was_down (is_live w n) is
leave_down w n reading false events is h = left_down w n None why.Leave 0 (acting reading (system_in w)) (has_other_manager w n) events h

pub who_left : (w : World) (t : Turn) → IsTurnOf w call.Leave t → is_live (after_turn w t) t.node ≡ false
who_left w t turn = leave_down w t.node t.moment (is_down w t.node input.StopNode) t.events refl turn.1

pub answer_tells : (w : World) (asked : Call) (t : Turn) → IsSound w → IsTurnOf w asked t
    → is_live (after_turn w t) t.node ≡ live_behind (is_live w t.node) (presence_of asked) (answer_of w t)
answer_tells w asked t sound turn =
    (served_tells w t.node t.moment (takeover_of w t.events) t.why (last_moment t.moment t.events) asked t.events (subst (λ k. t.node < k) (sym sound.live) turn.0.node_there) turn.1).0

pub others_whole : (w : World) (asked : Call) (t : Turn) (node : ℕ) → IsSound w → node ≢ t.node → IsTurnOf w asked t → is_live (after_turn w t) node ≡ is_live w node
others_whole w asked t node sound other turn =
    (served_tells w t.node t.moment None t.why 0 asked t.events (subst (λ k. t.node < k) (sym sound.live) turn.0.node_there) turn.1).1 node other

pub others_cut : (w : World) (asked : Call) (t : Turn) (node : ℕ) → node ≢ t.node → IsCutShort w asked t → is_live (after_turn w t) node ≡ is_live w node
others_cut w asked t node other turn =
    unless_stays w t.node t.moment (nodes_on (input_of asked)) (not (is_none w.manager || is_named (system_in w) (nodes_on (input_of asked)) t.node)) t.events turn.1.2 node other
