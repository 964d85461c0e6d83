-- A takeover that read the files tells what has become of the record in doubt.
use Rattle.std.proofs.Common.{◌≡◌, ℕ, inl, inr, Bool, true, false, not, ◌||◌, List, [], ◌∷◌, refl, sym, ◌∙◌, ap, subst, Option, None, Some, Ok, Err, IsSome, IsNone, is_some, is_none, Result}
use Rattle.qm_history.specs.Common.{Input, Record, Refusal, Request, applied, Accepted, view, input_of, acting, IsLegalTurn, after_event, CanAllCome, system_in, role_in, doubt_read}
use Rattle.qm_kinds.specs.declared.input.Input.TheVariants as input
use Rattle.qm_kinds.specs.declared.request.Request.TheVariants as request
use Rattle.qm_history.specs.declared.call.Call.{Call}
use Rattle.qm_history.specs.declared.call.Call.TheVariants as call
use Rattle.qm_history.specs.declared.event.Event.{Event}
use Rattle.qm_history.specs.declared.event.Event.TheVariants as event
use Rattle.qm_history.specs.declared.turn.Turn.{Turn}
use Rattle.qm_history.specs.declared.world.World.{World}
use Rattle.qm_history.specs.Happening.{is_takeover}
use Rattle.qm_history.specs.Takeover.{takes_over, nodes_on, is_named, IsFailure, StandsOrFails, UnlessRefused, TakesOverThen}
use Rattle.qm_history.specs.Telling.{TellsWhatItRead}
use Rattle.qm_history.specs.Turn.{Beside, Nothing, ATakeover, fence, IsAsked, IsCompaction, IsChange, start_refusal, IsComeUp, IsStarted, has_other_manager, loss_of, IsStopped, IsLeftFull, IsLeft, IsGoing, IsOwn, IsBehindTakeover, UnlessDown, is_down}
use Rattle.qm_history.proofs.ShapeLemmas.{IsOne, asked_one, viewed_one, compaction_one, full_one, fence_plain, fenced_one}

-- ---- a call's own events begin with no takeover

abbrev pub IsPlain : List Event → Type 0
IsPlain [] = Unit {0}
IsPlain (e ∷ events) = is_takeover e ≡ false

one_plain : (events : List Event) → IsOne events → IsPlain events
one_plain [] h = tt
one_plain (e ∷ []) h = h
one_plain (e ∷ next ∷ events) h = absurd h

change_plain : (first : Event) → is_takeover first ≡ false → (node moment : ℕ) (asked : Request) (res : Result Accepted Refusal) (events : List Event) → IsChange first node moment asked res events
    → IsPlain events
change_plain first plain node moment asked (Err refusal) events h = absurd h
change_plain first plain node moment asked (Ok accepted) (e ∷ event.Done n m r told ∷ []) h = ap is_takeover h.0 ∙ plain
change_plain first plain node moment asked (Ok accepted) (e ∷ event.Doubt n m r ∷ []) h = ap is_takeover h.0 ∙ plain
change_plain first plain node moment asked (Ok accepted) events h = absurd h

up_plain : (w : World) (node moment : ℕ) (beside : Beside) (events : List Event) → IsComeUp w node moment beside events → IsPlain events
up_plain w node moment ATakeover events h = subst IsPlain (sym h) refl
up_plain w node moment Nothing events (inl h) = change_plain (event.Started node) refl node moment request.NodeUp (applied (system_in w) moment node request.NodeUp) events h
up_plain w node moment Nothing events (inr h) = one_plain events (full_one node events h)

started_plain : (w : World) (node moment : ℕ) (beside : Beside) (refusal : Option Refusal) (events : List Event) → IsStarted w node moment beside refusal events → IsPlain events
started_plain w node moment beside (Some refusal) events h = subst IsPlain (sym h) refl
started_plain w node moment beside None events h = up_plain w node moment beside events h

stopped_plain : (w : World) (node moment : ℕ) (other : Bool) (events : List Event) → IsStopped w node moment other events → IsPlain events
stopped_plain w node moment false events h = subst IsPlain (sym h) refl
stopped_plain w node moment true events (inl h) = change_plain (event.Stopped node) refl node moment (loss_of w node) (applied (system_in w) moment node (loss_of w node)) events h
stopped_plain w node moment true events (inr h) = one_plain events (full_one node events h)

left_full_plain : (node : ℕ) (events : List Event) → IsLeftFull node events → IsPlain events
left_full_plain node (event.Left n ∷ event.Full m need cap ∷ []) h = refl
left_full_plain node events h = absurd h

left_plain : (w : World) (node moment : ℕ) (other : Bool) (events : List Event) → IsLeft w node moment other events → IsPlain events
left_plain w node moment false events h = subst IsPlain (sym h) refl
left_plain w node moment true events (inl h) = change_plain (event.Left node) refl node moment (loss_of w node) (applied (system_in w) moment node (loss_of w node)) events h
left_plain w node moment true events (inr h) = left_full_plain node events h

going_plain : (w : World) (node moment : ℕ) (asked : Call) (events : List Event) → IsGoing w node moment asked events → IsPlain events
going_plain w node moment call.Leave events h = left_plain w node moment (has_other_manager w node) events h
going_plain w node moment _ events h = stopped_plain w node moment (has_other_manager w node) events h

pub own_plain : (w : World) (node reading : ℕ) (asked : Call) (beside : Beside) (what : Input) (events : List Event) → IsOwn w node reading asked beside what events → IsPlain events
own_plain w node reading asked beside (input.Ask request.Tick) events h =
    one_plain events (fenced_one (fence w node) (IsAsked w node reading request.Tick events) events (fence_plain w node w.manager) (asked_one w node reading request.Tick events) h)
own_plain w node reading asked beside (input.Ask r) events h = one_plain events (asked_one w node reading r events h)
own_plain w node reading asked beside (input.Show query) events h =
    one_plain events (viewed_one node (acting reading (system_in w)) query (view (system_in w) (role_in w) query) events h)
own_plain w node reading asked beside (input.Fetch known) events h = subst IsPlain (sym h) refl
own_plain w node reading asked beside input.Compact events h =
    one_plain events (fenced_one (fence w node) (IsCompaction node events) events (fence_plain w node w.manager) (compaction_one node events) h)
own_plain w node reading asked beside (input.TakeManager on) events h = subst IsPlain (sym h) tt
own_plain w node reading asked beside input.StartNode events h = started_plain w node (acting reading (system_in w)) beside (start_refusal w node) events h
own_plain w node reading asked beside input.StopNode events h = going_plain w node (acting reading (system_in w)) asked events h
own_plain w node reading asked beside (input.Fault place kind) events h = subst IsPlain (sym h) refl

-- ---- takeovers

told_both : (kept : Option Bool) (w : World) (d : Option Record) → w.doubt ≡ d → (IsSome kept → IsSome d) → IsNone (doubt_read w kept) → is_some kept ≡ is_some d
told_both None w None is some none = refl
told_both None w (Some r) is some none = let no : IsNone {T = Record} (Some r) = subst (λ x. IsNone x) is none in cc
told_both (Some kept) w None is some none = let no : IsSome {T = Record} None = some refl in cc
told_both (Some kept) w (Some r) is some none = refl

nothing_left : (before w : World) (node reading : ℕ) (on : Option (List (List ℕ))) (tried : ℕ) (e : Event) (events : List Event)
    → IsFailure before w node reading on tried (e ∷ events) → IsNone w.doubt
nothing_left before w node reading on tried (event.Doubt n moment (request.Took epoch gone up may)) [] h = h.4
nothing_left before w node reading on tried (event.Full n need cap) [] h = h.3
nothing_left before w node reading on tried (event.NoManager n) [] h = h.3
nothing_left before w node reading on tried e events h = absurd h

plain_tells : (w : World) (events : List Event) → IsPlain events → TellsWhatItRead w events
plain_tells w [] h = tt
plain_tells w (event.Took node moment epoch gone up may kept ∷ events) h = cc
plain_tells w (event.TakeDoubt node tried kept ∷ []) h = cc
plain_tells w (event.TakeDoubt node tried kept ∷ e ∷ events) h = cc
plain_tells w (e ∷ events) h = tt

module _ (w : World) (node reading : ℕ) (on : Option (List (List ℕ))) (Then : World → List Event → Type 0) where
  stands_tells : (events : List Event) → CanAllCome w events → StandsOrFails w node reading on Then events → TellsWhatItRead w events
  stands_tells (event.Took n moment epoch gone up may kept ∷ events) can h = can.0.told
  stands_tells (event.TakeDoubt n tried kept ∷ []) can h = λ new. told_both kept w w.doubt refl can.0.1 (h.1 new)
  stands_tells (event.TakeDoubt n tried kept ∷ e ∷ events) can h =
      told_both kept w w.doubt refl can.0.1 (nothing_left w (after_event w (event.TakeDoubt n tried kept)) node reading on tried e events h.1)
  stands_tells events can h = absurd h

  refused_tells : (refused : Bool) (events : List Event) → CanAllCome w events → UnlessRefused refused node (StandsOrFails w node reading on Then events) events → TellsWhatItRead w events
  refused_tells true events can h = subst (TellsWhatItRead w) (sym h) tt
  refused_tells false events can h = stands_tells events can h

  takeover_tells : (events : List Event) → CanAllCome w events → TakesOverThen w node reading on Then events → TellsWhatItRead w events
  takeover_tells events can h = refused_tells (not (is_none w.manager || is_named (system_in w) on node)) events can h

-- ---- a turn

module _ (w : World) (node reading : ℕ) (asked : Call) (events : List Event) (can : CanAllCome w events) where
  behind_tells : (takes : Bool) → IsBehindTakeover w node reading asked takes events → TellsWhatItRead w events
  behind_tells false h = plain_tells w events (own_plain w node reading asked Nothing (input_of asked) events h)
  behind_tells true h =
      takeover_tells w node reading (nodes_on (input_of asked)) (λ after own. IsOwn after node reading asked ATakeover (input_of asked) own) events can h

  down_tells : (down : Bool) → UnlessDown down node reading (input_of asked) (IsBehindTakeover w node reading asked (takes_over w (input_of asked)) events) events → TellsWhatItRead w events
  down_tells true h = subst (TellsWhatItRead w) (sym h) tt
  down_tells false h = behind_tells (takes_over w (input_of asked)) h

pub turn_tells : (w : World) (t : Turn) → IsLegalTurn w t → TellsWhatItRead w t.events
turn_tells w t (asked, inl whole) = down_tells w t.node t.moment asked t.events whole.0.can_come (is_down w t.node (input_of asked)) whole.1
turn_tells w t (asked, inr short) =
    takeover_tells w t.node t.moment (nodes_on (input_of asked)) (λ after own. own ≡ []) t.events short.0.can_come short.1.2
