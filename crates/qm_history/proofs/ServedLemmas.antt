-- What the computed turn of a call holds is what may come of it.
use Rattle.std.proofs.Common.{◌≡◌, ℕ, inl, Bool, true, false, not, ◌||◌, cond, List, [], ◌∷◌, refl, sym, ◌∙◌, ap, subst, Option, None, Some, Ok, Err, IsOk, IsNone, is_some, is_none, Result}
use Rattle.qm_history.specs.Common.{Input, Query, Row, Record, Refusal, Request, System, applied, are_numbers_spent, at_moment, change_of, completed, Accepted, unless_refused, view, node_at, input_of, acting, system_of, after_event, system_in, role_in, is_live, log_read, doubt_read}
use Rattle.qm_kinds.specs.declared.input.Input.TheVariants as input
use Rattle.qm_kinds.specs.declared.refusal.Refusal.TheVariants.{NumbersSpent, BadValue}
use Rattle.qm_kinds.specs.declared.request.Request.TheVariants as request
use Rattle.qm_model.specs.Due.{due}
use Rattle.qm_history.specs.declared.call.Call.{Call}
use Rattle.qm_history.specs.declared.call.Call.TheVariants as call
use Rattle.qm_history.specs.declared.event.Event.{Event}
use Rattle.qm_history.specs.declared.event.Event.TheVariants as event
use Rattle.qm_history.specs.declared.world.World.{World}
use Rattle.qm_history.specs.Computed.{decided, asked_of, viewed, fenced_or, compacted, started, going, own_events, takeover, taking, unless_refused_at_once, behind_takeover, unless_down, events_of_call}
use Rattle.qm_history.specs.Takeover.{takes_over, nodes_on, is_named, StandsOrFails, UnlessRefused}
use Rattle.qm_history.specs.Turn.{Beside, Nothing, ATakeover, fence, FencedOr, IsDecided, IsAsked, IsViewed, IsCompaction, IsChange, start_refusal, IsStarted, has_other_manager, loss_of, IsStopped, IsLeft, IsOwn, IsBehindTakeover, UnlessDown, is_down, IsServed}

-- ---- each kind of answer

decided_is : (node now : ℕ) (asked : Request) (res : Result Accepted Refusal) → IsDecided node now asked res (decided node now asked res ∷ [])
decided_is node now asked (Ok accepted) = (refl, refl, refl, refl)
decided_is node now asked (Err refusal) = refl

asked_is : (w : World) (node reading : ℕ) (asked : Request) → IsAsked w node reading asked (asked_of w node (acting reading (system_in w)) asked ∷ [])
asked_is w node reading asked =
    decided_is node (acting reading (system_in w)) asked (applied (system_in w) (acting reading (system_in w)) node asked)

viewed_is : (node now : ℕ) (query : Query) (res : Result (List Row) Refusal) → IsViewed node now query res (viewed node now query res ∷ [])
viewed_is node now query (Ok rows) = refl
viewed_is node now query (Err refusal) = refl

fenced_is : (o : Option Event) (e : Event) (Own : List Event → Type 0) → Own (e ∷ []) → FencedOr o (Own (fenced_or o e ∷ [])) (fenced_or o e ∷ [])
fenced_is None e Own h = h
fenced_is (Some fenced) e Own h = refl

change_is : (first : Event) (node now : ℕ) (asked : Request) (res : Result Accepted Refusal) → IsOk res → IsChange first node now asked res (first ∷ decided node now asked res ∷ [])
change_is first node now asked (Ok accepted) ok = (refl, (refl, refl, refl, refl))
change_is first node now asked (Err refusal) ok = cc

-- ---- what is never refused

unless_spent : (b : Bool) (a : Accepted) → b ≡ false → IsOk (unless_refused (cond b (Some NumbersSpent) None) a)
unless_spent true a isnt = cc
unless_spent false a isnt = refl

pub coming_up_accepted : (s : System) (now node : ℕ) → are_numbers_spent s ≡ false → IsOk (applied s now node request.NodeUp)
coming_up_accepted s now node isnt =
    unless_spent (are_numbers_spent s) (completed (change_of (due now (at_moment now s)) now (node_at node s.nodes) request.NodeUp)) isnt

pub loss_accepted : (s : System) (now node : ℕ) (lost : List (List ℕ)) → IsOk (applied s now node (request.NodeLost lost))
loss_accepted s now node lost = refl

pub start_at : (spent live : Bool) → cond spent (Some NumbersSpent) (cond live (Some BadValue) None) ≡ None → (spent ≡ false) × (live ≡ false)
start_at true live h = cc
start_at false true h = cc
start_at false false h = (refl, refl)

-- ---- a call's own events

started_is : (w : World) (node now : ℕ) (beside : Beside) (o : Option Refusal) → (o ≡ None → are_numbers_spent (system_in w) ≡ false)
    → IsStarted w node now beside o (started w node now beside o)
started_is w node now beside (Some refusal) spent = refl
started_is w node now ATakeover None spent = refl
started_is w node now Nothing None spent =
    inl (change_is (event.Started node) node now request.NodeUp (applied (system_in w) now node request.NodeUp) (coming_up_accepted (system_in w) now node (spent refl)))

lost_is : (first : Event) (w : World) (node now : ℕ) → IsChange first node now (loss_of w node) (applied (system_in w) now node (loss_of w node)) (first ∷ asked_of w node now (loss_of w node) ∷ [])
lost_is first w node now =
    change_is first node now (loss_of w node) (applied (system_in w) now node (loss_of w node)) (loss_accepted (system_in w) now node (node_at node (system_in w).nodes ∷ []))

stopped_is : (w : World) (node now : ℕ) (other : Bool) → IsStopped w node now other (going (event.Stopped node) w node now other)
stopped_is w node now false = refl
stopped_is w node now true = inl (lost_is (event.Stopped node) w node now)

left_is : (w : World) (node now : ℕ) (other : Bool) → IsLeft w node now other (going (event.Left node) w node now other)
left_is w node now false = refl
left_is w node now true = inl (lost_is (event.Left node) w node now)

own_is : (w : World) (node reading : ℕ) (asked : Call) (beside : Beside) (what : Input) → IsOwn w node reading asked beside what (own_events w node reading asked beside what)
own_is w node reading asked beside (input.Ask request.Tick) =
    fenced_is (fence w node) (asked_of w node (acting reading (system_in w)) request.Tick) (IsAsked w node reading request.Tick) (asked_is w node reading request.Tick)
own_is w node reading asked beside (input.Ask r) = asked_is w node reading r
own_is w node reading asked beside (input.Show query) = viewed_is node (acting reading (system_in w)) query (view (system_in w) (role_in w) query)
own_is w node reading asked beside input.Compact = fenced_is (fence w node) (compacted w node) (IsCompaction node) refl
own_is w node reading asked beside input.StartNode =
    started_is w node (acting reading (system_in w)) beside (start_refusal w node) (λ none. (start_at (are_numbers_spent (system_in w)) (is_live w node) none).0)
own_is w node reading call.Leave beside input.StopNode = left_is w node (acting reading (system_in w)) (has_other_manager w node)
own_is w node reading (call.Line line what) beside input.StopNode = stopped_is w node (acting reading (system_in w)) (has_other_manager w node)
own_is w node reading (call.Fetch known) beside input.StopNode = stopped_is w node (acting reading (system_in w)) (has_other_manager w node)
own_is w node reading (call.Report run told) beside input.StopNode = stopped_is w node (acting reading (system_in w)) (has_other_manager w node)
own_is w node reading asked beside _ = refl

-- ---- takeovers

none_left : (w : World) (d : Option Record) → w.doubt ≡ d → (kept : Option Bool) → is_some kept ≡ is_some w.doubt → IsNone (doubt_read w kept)
none_left w None is None told = subst (λ x. IsNone x) (sym is) refl
none_left w (Some r) is None told = let yes : is_some {T = Record} (Some r) ≡ false = ap is_some (sym is) ∙ sym told in cc
none_left w d is (Some kept) told = refl

module _ (w : World) (node reading : ℕ) (asked : Call) (kept : Option Bool) (told : is_some kept ≡ is_some w.doubt) where
  abbrev Then : World → List Event → Type 0
  Then after own = IsOwn after node reading asked ATakeover (input_of asked) own

  taking_is : (named : Bool) → is_named (system_of (log_read w kept)) (nodes_on (input_of asked)) node ≡ named
      → StandsOrFails w node reading (nodes_on (input_of asked)) Then (taking w node reading asked kept named)
  taking_is true is =
      (refl, refl, refl, own_is (after_event w (takeover w node reading (nodes_on (input_of asked)) kept)) node reading asked ATakeover (input_of asked))
  taking_is false is = (refl, (refl, is, refl, none_left w w.doubt refl kept told))

  at_once_is : (refused : Bool) (Rest : List Event → Type 0) (events : List Event) → Rest events
      → UnlessRefused refused node (Rest (unless_refused_at_once refused node events)) (unless_refused_at_once refused node events)
  at_once_is true Rest events h = refl
  at_once_is false Rest events h = h

  behind_is : (takes : Bool) → IsBehindTakeover w node reading asked takes (behind_takeover w node reading asked kept takes)
  behind_is false = own_is w node reading asked Nothing (input_of asked)
  behind_is true =
      let named : Bool = is_named (system_of (log_read w kept)) (nodes_on (input_of asked)) node in
      at_once_is (not (is_none w.manager || is_named (system_in w) (nodes_on (input_of asked)) node)) (StandsOrFails w node reading (nodes_on (input_of asked)) Then)
      (taking w node reading asked kept named) (taking_is named refl)

  down_is : (down : Bool) (Rest : List Event → Type 0) (events : List Event) → Rest events
      → UnlessDown down node reading (input_of asked) (Rest (unless_down down node reading (input_of asked) events)) (unless_down down node reading (input_of asked) events)
  down_is true Rest events h = refl
  down_is false Rest events h = h

  pub served : IsServed w node reading asked (events_of_call w node reading kept asked)
  served =
      down_is (is_down w node (input_of asked)) (IsBehindTakeover w node reading asked (takes_over w (input_of asked)))
      (behind_takeover w node reading asked kept (takes_over w (input_of asked))) (behind_is (takes_over w (input_of asked)))
