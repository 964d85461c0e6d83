-- What the events of a call and its answer leave of the node's listings, and how their rows are printed.
use Rattle.std.proofs.Common.{◌≡◌, inl, inr, ℕ, Bool, true, false, not, cond, ◌||◌, List, [], ◌∷◌, refl, sym, subst, Option, None, Some, Result, Ok, Err, fold, is_none, ◌==◌, option_and_then}
use Rattle.qm_history.specs.Common.{Input, Query, Row, Refusal, Reply, Request, acting, applied, Accepted, view, node_at, events_answer, last_moment, taken_answer, takeover_of, input_of, request_of_report, after_event, held_by, role_in, system_in}
use Rattle.qm_kinds.specs.declared.input.Input.TheVariants as input
use Rattle.qm_kinds.specs.declared.request.Request.TheVariants as request
use Rattle.qm_history.specs.declared.call.Call.{Call}
use Rattle.qm_history.specs.declared.call.Call.TheVariants as call
use Rattle.qm_history.specs.declared.call.Takeover.{Takeover}
use Rattle.qm_history.specs.declared.event.Event.{Event}
use Rattle.qm_history.specs.declared.event.Event.TheVariants as event
use Rattle.qm_history.specs.declared.turn.Turn.{Turn}
use Rattle.qm_history.specs.declared.turn.Why.{Why}
use Rattle.qm_history.specs.declared.turn.Why.TheVariants as why
use Rattle.qm_history.specs.declared.world.Role.{Role}
use Rattle.qm_history.specs.declared.world.World.{World}
use Rattle.qm_history.specs.Scans.{Scans, behind_event, rows_of}
use Rattle.qm_history.specs.Takeover.{IsFailure, StandsOrFails, UnlessRefused, is_named, nodes_on, takes_over}
use Rattle.qm_history.specs.Text.{FirstLine, answer_lines, is_single as shows_one}
use Rattle.qm_history.specs.Turn.{ATakeover, Beside, FencedOr, IsAsked, IsBehindTakeover, IsChange, IsComeUp, IsCompaction, IsDecided, IsFull, IsLeft, IsLeftFull, IsOwn, IsRecorded, IsServed, IsStarted, IsStopped, IsTurnOf, IsViewed, Nothing, UnlessDown, fence, fence_of, has_other_manager, is_down, loss_of, start_refusal}
use Rattle.qm_scans.specs.declared.step.ScanStep.{ScanStep}
use Rattle.qm_scans.specs.declared.step.ScanStep.TheVariants.{Lists, Stops, Stays}
use Rattle.qm_scans.specs.Behind.{behind_answer, is_single, step_of, step_of_input}

-- What is claimed of the events of a call, from a world on: what they leave of the listings is told by the answer, and so is how its
-- rows are printed.
pub record Tells (w : World) (took : Option Takeover) (because : Why) (acted : ℕ) (step : ScanStep) (events : List Event) : Type 0 where
  pub scans : (s : Scans) → fold (behind_event (rows_of (events_answer w took because acted events))) s events ≡ behind_answer s step (events_answer w took because acted events)
  pub rows : (items_line : Row → List ℕ) (first : FirstLine)
      → answer_lines items_line first (shows_one events) (events_answer w took because acted events)
      ≡ answer_lines items_line first (is_single step) (events_answer w took because acted events)

-- the call isn't a stop
abbrev IsNoStop : ScanStep → Type 0
IsNoStop (Lists q) = Unit {0}
IsNoStop Stops = ⊥
IsNoStop Stays = Unit {0}

module _ (w : World) (n : ℕ) (took : Option Takeover) (because : Why) (acted : ℕ) where
  abbrev Told : ScanStep → List Event → Type 0
  Told step events = Tells w took because acted step events

  -- ---- refusals

  refused_as : (what : Input) (k m : ℕ) (refusal : Refusal) → Told (step_of_input what) (event.Refused k m what refusal ∷ [])
  refused_as (input.Ask r) k m refusal = record { scans = λ s. refl; rows = λ i f. refl }
  refused_as (input.Show query) k m refusal = record { scans = λ s. refl; rows = λ i f. refl }
  refused_as (input.Fetch known) k m refusal = record { scans = λ s. refl; rows = λ i f. refl }
  refused_as input.Compact k m refusal = record { scans = λ s. refl; rows = λ i f. refl }
  refused_as (input.TakeManager on) k m refusal = record { scans = λ s. refl; rows = λ i f. refl }
  refused_as input.StartNode k m refusal = record { scans = λ s. refl; rows = λ i f. refl }
  refused_as input.StopNode k m refusal = record { scans = λ s. refl; rows = λ i f. refl }
  refused_as (input.Fault place kind) k m refusal = record { scans = λ s. refl; rows = λ i f. refl }

  refused_tells : (asked : Call) (k m : ℕ) (refusal : Refusal) (events : List Event) → events ≡ event.Refused k m (input_of asked) refusal ∷ [] → Told (step_of asked) events
  refused_tells (call.Line line what) k m refusal events is = subst (Told (step_of_input what)) (sym is) (refused_as what k m refusal)
  refused_tells (call.Fetch known) k m refusal events is = subst (Told Stays) (sym is) (record { scans = λ s. refl; rows = λ i f. refl })
  refused_tells (call.Report run told) k m refusal events is = subst (Told Stays) (sym is) (record { scans = λ s. refl; rows = λ i f. refl })
  refused_tells call.Leave k m refusal events is = subst (Told Stays) (sym is) (record { scans = λ s. refl; rows = λ i f. refl })

  -- ---- requests

  recorded_tells : (node moment : ℕ) (asked : Request) (reply : Reply) (events : List Event) → IsRecorded node moment asked reply events → Told Stays events
  recorded_tells node moment asked reply (event.Done k m r told ∷ []) h = record { scans = λ s. refl; rows = λ i f. refl }
  recorded_tells node moment asked reply (event.Doubt k m r ∷ []) h = record { scans = λ s. refl; rows = λ i f. refl }
  recorded_tells node moment asked reply (event.Full k need cap ∷ []) h = record { scans = λ s. refl; rows = λ i f. refl }
  recorded_tells node moment asked reply events h = absurd h

  decided_tells : (moment : ℕ) (asked : Request) (found : Result Accepted Refusal) (events : List Event) → IsDecided n moment asked found events → Told Stays events
  decided_tells moment asked (Err refusal) events h = subst (Told Stays) (sym h) (refused_as (input.Ask asked) n moment refusal)
  decided_tells moment asked (Ok accepted) events h = recorded_tells n moment asked accepted.reply events h

  -- a fence holds one event, which shows nothing
  abbrev IsFence : Option Event → Type 0
  IsFence None = Unit {0}
  IsFence (Some e) = Told Stays (e ∷ [])

  fenced_or_tells : (f : Option Event) → IsFence f → (Own : Type 0) (events : List Event) → (Own → Told Stays events) → FencedOr f Own events → Told Stays events
  fenced_or_tells None is Own events own h = own h
  fenced_or_tells (Some e) is Own events own h = subst (Told Stays) (sym h) is

  fence_with : (role : Role) (b : Bool) → IsFence (cond b None (Some (event.Fenced n (held_by w n) role.epoch)))
  fence_with role true = tt
  fence_with role false = record { scans = λ s. refl; rows = λ i f. refl }

  fence_in : (manager : Option Role) → IsFence (option_and_then (λ (role : Role). cond (held_by w n == role.epoch) None (Some (event.Fenced n (held_by w n) role.epoch))) manager)
  fence_in None = tt
  fence_in (Some role) = fence_with role (held_by w n == role.epoch)

  fence_of_is : (asked : Request) → IsFence (fence_of w n asked)
  fence_of_is request.Tick = fence_in w.manager
  fence_of_is asked = tt

  compaction_tells : (events : List Event) → IsCompaction n events → Told Stays events
  compaction_tells (event.Compacted k epoch file ∷ []) h = record { scans = λ s. refl; rows = λ i f. refl }
  compaction_tells (event.Full k need cap ∷ []) h = record { scans = λ s. refl; rows = λ i f. refl }
  compaction_tells (event.CompactDoubt k ∷ []) h = record { scans = λ s. refl; rows = λ i f. refl }
  compaction_tells events h = absurd h

  -- ---- listings

  viewed_tells : (moment : ℕ) (query : Query) (found : Result (List Row) Refusal) (events : List Event) → IsViewed n moment query found events → Told (Lists query) events
  viewed_tells moment query (Err refusal) events h = subst (Told (Lists query)) (sym h) (refused_as (input.Show query) n moment refusal)
  viewed_tells moment query (Ok found) events h = subst (Told (Lists query)) (sym h) (record { scans = λ s. refl; rows = λ i f. refl })

  -- ---- nodes that come up, stop and leave

  full_tells : (step : ScanStep) (events : List Event) → IsFull n events → Told step events
  full_tells (Lists q) (event.Full k need cap ∷ []) h = record { scans = λ s. refl; rows = λ i f. refl }
  full_tells Stops (event.Full k need cap ∷ []) h = record { scans = λ s. refl; rows = λ i f. refl }
  full_tells Stays (event.Full k need cap ∷ []) h = record { scans = λ s. refl; rows = λ i f. refl }
  full_tells step events h = absurd h

  started_with : (node moment : ℕ) (asked : Request) (found : Result Accepted Refusal) (events : List Event) → IsChange (event.Started n) node moment asked found events → Told Stays events
  started_with node moment asked (Err refusal) events h = absurd h
  started_with node moment asked (Ok accepted) (e ∷ event.Done k m r told ∷ []) h =
      subst (λ (x : Event). Told Stays (x ∷ event.Done k m r told ∷ [])) (sym h.0) (record { scans = λ s. refl; rows = λ i f. refl })
  started_with node moment asked (Ok accepted) (e ∷ event.Doubt k m r ∷ []) h =
      subst (λ (x : Event). Told Stays (x ∷ event.Doubt k m r ∷ [])) (sym h.0) (record { scans = λ s. refl; rows = λ i f. refl })
  started_with node moment asked (Ok accepted) events h = absurd h

  come_up_tells : (moment : ℕ) (beside : Beside) (events : List Event) → IsComeUp w n moment beside events → Told Stays events
  come_up_tells moment ATakeover events h = subst (Told Stays) (sym h) (record { scans = λ s. refl; rows = λ i f. refl })
  come_up_tells moment Nothing events (inl h) = started_with n moment request.NodeUp (applied (system_in w) moment n request.NodeUp) events h
  come_up_tells moment Nothing events (inr h) = full_tells Stays events h

  started_tells : (moment : ℕ) (beside : Beside) (refusal : Option Refusal) (events : List Event) → IsStarted w n moment beside refusal events → Told Stays events
  started_tells moment beside (Some refusal) events h = subst (Told Stays) (sym h) (refused_as input.StartNode n moment refusal)
  started_tells moment beside None events h = come_up_tells moment beside events h

  stopped_with : (node moment : ℕ) (asked : Request) (found : Result Accepted Refusal) (events : List Event) → IsChange (event.Stopped n) node moment asked found events → Told Stops events
  stopped_with node moment asked (Err refusal) events h = absurd h
  stopped_with node moment asked (Ok accepted) (e ∷ event.Done k m r told ∷ []) h =
      subst (λ (x : Event). Told Stops (x ∷ event.Done k m r told ∷ [])) (sym h.0) (record { scans = λ s. refl; rows = λ i f. refl })
  stopped_with node moment asked (Ok accepted) (e ∷ event.Doubt k m r ∷ []) h =
      subst (λ (x : Event). Told Stops (x ∷ event.Doubt k m r ∷ [])) (sym h.0) (record { scans = λ s. refl; rows = λ i f. refl })
  stopped_with node moment asked (Ok accepted) events h = absurd h

  stopped_tells : (moment : ℕ) (other : Bool) (events : List Event) → IsStopped w n moment other events → Told Stops events
  stopped_tells moment false events h = subst (Told Stops) (sym h) (record { scans = λ s. refl; rows = λ i f. refl })
  stopped_tells moment true events (inl h) = stopped_with n moment (loss_of w n) (applied (system_in w) moment n (loss_of w n)) events h
  stopped_tells moment true events (inr h) = full_tells Stops events h

  left_with : (node moment : ℕ) (asked : Request) (found : Result Accepted Refusal) (events : List Event) → IsChange (event.Left n) node moment asked found events → Told Stays events
  left_with node moment asked (Err refusal) events h = absurd h
  left_with node moment asked (Ok accepted) (e ∷ event.Done k m r told ∷ []) h =
      subst (λ (x : Event). Told Stays (x ∷ event.Done k m r told ∷ [])) (sym h.0) (record { scans = λ s. refl; rows = λ i f. refl })
  left_with node moment asked (Ok accepted) (e ∷ event.Doubt k m r ∷ []) h =
      subst (λ (x : Event). Told Stays (x ∷ event.Doubt k m r ∷ [])) (sym h.0) (record { scans = λ s. refl; rows = λ i f. refl })
  left_with node moment asked (Ok accepted) events h = absurd h

  left_full_tells : (events : List Event) → IsLeftFull n events → Told Stays events
  left_full_tells (event.Left k ∷ event.Full m need cap ∷ []) h = record { scans = λ s. refl; rows = λ i f. refl }
  left_full_tells events h = absurd h

  left_tells : (moment : ℕ) (other : Bool) (events : List Event) → IsLeft w n moment other events → Told Stays events
  left_tells moment false events h = subst (Told Stays) (sym h) (record { scans = λ s. refl; rows = λ i f. refl })
  left_tells moment true events (inl h) = left_with n moment (loss_of w n) (applied (system_in w) moment n (loss_of w n)) events h
  left_tells moment true events (inr h) = left_full_tells events h

  -- ---- a takeover alone

  taken_scans : (moment : ℕ) (name : List ℕ) (epoch : ℕ) (whose : Why) (step : ScanStep) (s : Scans) → IsNoStop step → s ≡ behind_answer s step (taken_answer took moment name epoch whose)
  taken_scans moment name epoch (why.Line line) (Lists q) s is = refl
  taken_scans moment name epoch why.Fetch (Lists q) s is = refl
  taken_scans moment name epoch why.Report (Lists q) s is = refl
  taken_scans moment name epoch why.Leave (Lists q) s is = refl
  taken_scans moment name epoch whose Stops s is = absurd is
  taken_scans moment name epoch whose Stays s is = refl

  taken_rows : (moment : ℕ) (name : List ℕ) (epoch : ℕ) (whose : Why) (one : Bool) (items_line : Row → List ℕ) (first : FirstLine)
      → answer_lines items_line first false (taken_answer took moment name epoch whose) ≡ answer_lines items_line first one (taken_answer took moment name epoch whose)
  taken_rows moment name epoch (why.Line line) one i f = refl
  taken_rows moment name epoch why.Fetch one i f = refl
  taken_rows moment name epoch why.Report one i f = refl
  taken_rows moment name epoch why.Leave one i f = refl

  failed_tells : (step : ScanStep) (k tried : ℕ) (kept : Option Bool) (on : Option (List (List ℕ))) (reading : ℕ) (after : World) (events : List Event) → IsNoStop step
      → IsFailure w after n reading on tried events → Told step (event.TakeDoubt k tried kept ∷ events)
  failed_tells Stops k tried kept on reading after events is h = absurd is
  failed_tells (Lists q) k tried kept on reading after [] is h = record { scans = λ s. refl; rows = λ i f. refl }
  failed_tells (Lists q) k tried kept on reading after (event.Doubt m moment (request.Took epoch gone up may) ∷ []) is h = record { scans = λ s. refl; rows = λ i f. refl }
  failed_tells (Lists q) k tried kept on reading after (event.Full m need cap ∷ []) is h = record { scans = λ s. refl; rows = λ i f. refl }
  failed_tells (Lists q) k tried kept on reading after (event.NoManager m ∷ []) is h = record { scans = λ s. refl; rows = λ i f. refl }
  failed_tells Stays k tried kept on reading after [] is h = record { scans = λ s. refl; rows = λ i f. refl }
  failed_tells Stays k tried kept on reading after (event.Doubt m moment (request.Took epoch gone up may) ∷ []) is h = record { scans = λ s. refl; rows = λ i f. refl }
  failed_tells Stays k tried kept on reading after (event.Full m need cap ∷ []) is h = record { scans = λ s. refl; rows = λ i f. refl }
  failed_tells Stays k tried kept on reading after (event.NoManager m ∷ []) is h = record { scans = λ s. refl; rows = λ i f. refl }
  failed_tells step k tried kept on reading after events is h = absurd h

  no_manager_tells : (step : ScanStep) → IsNoStop step → Told step (event.NoManager n ∷ [])
  no_manager_tells (Lists q) is = record { scans = λ s. refl; rows = λ i f. refl }
  no_manager_tells Stops is = absurd is
  no_manager_tells Stays is = record { scans = λ s. refl; rows = λ i f. refl }

-- ---- a call's own events

module _ (w : World) (n reading : ℕ) (took : Option Takeover) (because : Why) (acted : ℕ) where
  own_asked : (asked : Call) (beside : Beside) (r : Request) (events : List Event) → IsOwn w n reading asked beside (input.Ask r) events → Tells w took because acted Stays events
  own_asked asked beside r events h =
      fenced_or_tells w n took because acted (fence_of w n r) (fence_of_is w n took because acted r) (IsAsked w n reading r events) events
      (decided_tells w n took because acted (acting reading (system_in w)) r (applied (system_in w) (acting reading (system_in w)) n r) events) h

  own_of_line : (line : ℕ) (beside : Beside) (what : Input) (events : List Event) → IsOwn w n reading (call.Line line what) beside what events
      → Tells w took because acted (step_of_input what) events
  own_of_line line beside (input.Ask r) events h = own_asked (call.Line line (input.Ask r)) beside r events h
  own_of_line line beside (input.Show query) events h =
      viewed_tells w n took because acted (acting reading (system_in w)) query (view (system_in w) (role_in w) query) events h
  own_of_line line beside (input.Fetch known) events h = subst (Tells w took because acted Stays) (sym h) (record { scans = λ s. refl; rows = λ i f. refl })
  own_of_line line beside input.Compact events h =
      fenced_or_tells w n took because acted (fence w n) (fence_in w n took because acted w.manager) (IsCompaction n events) events (compaction_tells w n took because acted events) h
  own_of_line line beside (input.TakeManager on) events h = subst (Tells w took because acted Stays) (sym h) (record { scans = λ s. refl; rows = λ i f. refl })
  own_of_line line beside input.StartNode events h = started_tells w n took because acted (acting reading (system_in w)) beside (start_refusal w n) events h
  own_of_line line beside input.StopNode events h = stopped_tells w n took because acted (acting reading (system_in w)) (has_other_manager w n) events h
  own_of_line line beside (input.Fault place kind) events h =
      subst (Tells w took because acted Stays) (sym h) (refused_as w n took because acted (input.Fault place kind) n reading _)

  own_tells : (asked : Call) (beside : Beside) (events : List Event) → IsOwn w n reading asked beside (input_of asked) events → Tells w took because acted (step_of asked) events
  own_tells (call.Line line what) beside events h = own_of_line line beside what events h
  own_tells (call.Fetch known) beside events h = subst (Tells w took because acted Stays) (sym h) (record { scans = λ s. refl; rows = λ i f. refl })
  own_tells (call.Report run told) beside events h = own_asked (call.Report run told) beside (request_of_report run told) events h
  own_tells call.Leave beside events h = left_tells w n took because acted (acting reading (system_in w)) (has_other_manager w n) events h

-- ---- behind a takeover

-- a call that can take over is no stop
takes_no_stop : (w : World) (asked : Call) → takes_over w (input_of asked) ≡ true → IsNoStop (step_of asked)
takes_no_stop w (call.Line line (input.Ask r)) takes = tt
takes_no_stop w (call.Line line (input.Show query)) takes = tt
takes_no_stop w (call.Line line (input.Fetch known)) takes = tt
takes_no_stop w (call.Line line input.Compact) takes = tt
takes_no_stop w (call.Line line (input.TakeManager on)) takes = tt
takes_no_stop w (call.Line line input.StartNode) takes = tt
takes_no_stop w (call.Line line input.StopNode) takes = absurd (cc)
takes_no_stop w (call.Line line (input.Fault place kind)) takes = tt
takes_no_stop w (call.Fetch known) takes = tt
takes_no_stop w (call.Report run told) takes = tt
takes_no_stop w call.Leave takes = tt

module _ (w : World) (n reading : ℕ) (took : Option Takeover) (because : Why) (acted : ℕ) (asked : Call) (goes : IsNoStop (step_of asked)) where
  abbrev Asked : List Event → Type 0
  Asked events = Tells w took because acted (step_of asked) events

  stood_tells : (k moment epoch : ℕ) (gone up may : List (List ℕ)) (kept : Option Bool) (own : List Event)
      → IsOwn (after_event w (event.Took k moment epoch gone up may kept)) n reading asked ATakeover (input_of asked) own → Asked (event.Took k moment epoch gone up may kept ∷ own)
  stood_tells k moment epoch gone up may kept [] h = record {
    scans = λ s. taken_scans w n took because acted acted (node_at k (system_in w).nodes) epoch because (step_of asked) s goes;
    rows = λ i f. taken_rows w n took because acted acted (node_at k (system_in w).nodes) epoch because (is_single (step_of asked)) i f;
  }
  stood_tells k moment epoch gone up may kept (e ∷ events) h =
      let told = own_tells (after_event w (event.Took k moment epoch gone up may kept)) n reading took because acted asked ATakeover (e ∷ events) h in
      record { scans = λ s. told.scans s; rows = λ i f. told.rows i f }

  taking_tells : (on : Option (List (List ℕ))) (events : List Event)
      → StandsOrFails w n reading on (λ after own. IsOwn after n reading asked ATakeover (input_of asked) own) events → Asked events
  taking_tells on (event.Took k moment epoch gone up may kept ∷ own) h = stood_tells k moment epoch gone up may kept own h.3
  taking_tells on (event.TakeDoubt k tried kept ∷ events) h =
      failed_tells w n took because acted (step_of asked) k tried kept on reading (after_event w (event.TakeDoubt k tried kept)) events goes h.1
  taking_tells on events h = absurd h

  unless_tells : (on : Option (List (List ℕ))) (refused : Bool) (events : List Event)
      → UnlessRefused refused n (StandsOrFails w n reading on (λ after own. IsOwn after n reading asked ATakeover (input_of asked) own) events) events → Asked events
  unless_tells on true events h = subst Asked (sym h) (no_manager_tells w n took because acted (step_of asked) goes)
  unless_tells on false events h = taking_tells on events h

-- ---- a call served whole

module _ (w : World) (n reading : ℕ) (took : Option Takeover) (because : Why) (acted : ℕ) (asked : Call) where
  behind_tells : (takes : Bool) (events : List Event) → takes_over w (input_of asked) ≡ takes → IsBehindTakeover w n reading asked takes events → Tells w took because acted (step_of asked) events
  behind_tells false events is h = own_tells w n reading took because acted asked Nothing events h
  behind_tells true events is h =
      unless_tells w n reading took because acted asked (takes_no_stop w asked is) (nodes_on (input_of asked)) (not (is_none w.manager || is_named (system_in w) (nodes_on (input_of asked)) n)) events h

  down_tells : (down : Bool) (events : List Event)
      → UnlessDown down n reading (input_of asked) (IsBehindTakeover w n reading asked (takes_over w (input_of asked)) events) events → Tells w took because acted (step_of asked) events
  down_tells true events h = refused_tells w n took because acted asked n reading _ events h
  down_tells false events h = behind_tells (takes_over w (input_of asked)) events refl h

  served_tells : (events : List Event) → IsServed w n reading asked events → Tells w took because acted (step_of asked) events
  served_tells events h = down_tells (is_down w n (input_of asked)) events h

pub turn_tells : (w : World) (asked : Call) (t : Turn) → IsTurnOf w asked t
    → Tells w (takeover_of w t.events) t.why (last_moment t.moment t.events) (step_of asked) t.events
turn_tells w asked t turn = served_tells w t.node t.moment (takeover_of w t.events) t.why (last_moment t.moment t.events) asked t.events turn.1
