-- What a turn of a call may hold.
-- OpenVMS System Manager's Manual, Managing the Queue Manager and Queue Database, on the queue manager of a cluster; OpenVMS
-- System Services Reference Manual, $SNDJBC and $GETQUI. This site's own: fenced calls, compaction, and nodes that stop and start.
use Rattle.std.specs.Prelude.{◌≡◌, ◌⊎◌, ◌<◌, ℕ, ◌==◌, Bool, true, false, not, ◌&&◌, if◌then◌else◌, List, [], ◌∷◌, length, Option, None, Some, Result, Ok, Err}
use Rattle.std.specs.Option.{option_and_then, option_map_or}
use Rattle.qm_model.specs.Common.{Input, Query, Row, Refusal, Reply, Request, applied, are_numbers_spent, Accepted, view, node_at, acting}
use Rattle.qm_kinds.specs.declared.input.Input.TheVariants as input
use Rattle.qm_kinds.specs.declared.refusal.Refusal.TheVariants as refused
use Rattle.qm_kinds.specs.declared.request.Request.TheVariants as request
use Rattle.qm_history.specs.declared.call.Call.{Call}
use Rattle.qm_history.specs.declared.call.Call.TheVariants as call
use Rattle.qm_history.specs.declared.event.Event.{Event}
use Rattle.qm_history.specs.declared.event.Event.TheVariants as event
use Rattle.qm_history.specs.declared.turn.Turn.{Turn}
use Rattle.qm_history.specs.declared.world.Role.{Role}
use Rattle.qm_history.specs.declared.world.World.{World}
use Rattle.qm_history.specs.Calls.{input_of, why_of, IsFromOutside, is_start}
use Rattle.qm_history.specs.Step.{CanAllCome}
use Rattle.qm_history.specs.Takeover.{takes_over, nodes_on, TakesOverThen}
use Rattle.qm_history.specs.World.{system_in, is_live, held_by, role_in}

-- what a call's own events stand beside: nothing, or a takeover of the same turn
pub data Beside : Type 0 where
  Nothing : Beside
  ATakeover : Beside

-- the event that tells that the node holds another epoch than the manager's, if it does
abbrev pub fence : World → ℕ → Option Event
fence w node = option_and_then (λ (role : Role). if held_by w node == role.epoch then None else Some (event.Fenced node (held_by w node) role.epoch)) w.manager

-- TICK is for the manager's epoch alone, and other requests come from each live node
abbrev pub fence_of : World → ℕ → Request → Option Event
fence_of w node request.Tick = fence w node
fence_of w node asked = None

-- this event alone, where there is one, and else what follows
abbrev pub FencedOr : Option Event → Type 0 → List Event → Type 0
FencedOr (Some e) Own events = events ≡ e ∷ []
FencedOr None Own events = Own

-- the record of a request is there, has no room, or is in doubt
abbrev pub IsRecorded : ℕ → ℕ → Request → Reply → List Event → Type 0
IsRecorded node moment asked reply (event.Done n m r told ∷ []) = (n ≡ node) × (m ≡ moment) × (r ≡ asked) × (told ≡ reply)
IsRecorded node moment asked reply (event.Doubt n m r ∷ []) = (n ≡ node) × (m ≡ moment) × (r ≡ asked)
IsRecorded node moment asked reply (event.Full n need cap ∷ []) = n ≡ node
IsRecorded node moment asked reply events = ⊥

-- a refused request is told to be, and the record of an accepted one is written
abbrev pub IsDecided : ℕ → ℕ → Request → Result Accepted Refusal → List Event → Type 0
IsDecided node moment asked (Err refusal) events = events ≡ event.Refused node moment (input.Ask asked) refusal ∷ []
IsDecided node moment asked (Ok accepted) events = IsRecorded node moment asked accepted.reply events

-- a request is asked of the system, as the moment finds it
abbrev pub IsAsked : World → ℕ → ℕ → Request → List Event → Type 0
IsAsked w node reading asked events =
    let now = acting reading (system_in w) in IsDecided node now asked (applied (system_in w) now node asked) events

-- rows are shown, or there are none
abbrev pub IsViewed : ℕ → ℕ → Query → Result (List Row) Refusal → List Event → Type 0
IsViewed node moment query (Err refusal) events = events ≡ event.Refused node moment (input.Show query) refusal ∷ []
IsViewed node moment query (Ok rows) events = events ≡ event.Shown node moment (input.Show query) ∷ []

-- the image is in a file, has no room, or a disk failed
abbrev pub IsCompaction : ℕ → List Event → Type 0
IsCompaction node (event.Compacted n epoch file ∷ []) = n ≡ node
IsCompaction node (event.Full n need cap ∷ []) = n ≡ node
IsCompaction node (event.CompactDoubt n ∷ []) = n ≡ node
IsCompaction node events = ⊥

-- the node changes, and the request that tells of it is recorded or in doubt
abbrev pub IsChange : Event → ℕ → ℕ → Request → Result Accepted Refusal → List Event → Type 0
IsChange first node moment asked (Err refusal) events = ⊥
IsChange first node moment asked (Ok accepted) (e ∷ event.Done n m r told ∷ []) = (e ≡ first) × IsRecorded node moment asked accepted.reply (event.Done n m r told ∷ [])
IsChange first node moment asked (Ok accepted) (e ∷ event.Doubt n m r ∷ []) = (e ≡ first) × IsRecorded node moment asked accepted.reply (event.Doubt n m r ∷ [])
IsChange first node moment asked (Ok accepted) events = ⊥

-- nothing but that a record has no room
abbrev pub IsFull : ℕ → List Event → Type 0
IsFull node (event.Full n need cap ∷ []) = n ≡ node
IsFull node events = ⊥

-- why a node can't be started: run numbers are spent, or it is live
abbrev pub start_refusal : World → ℕ → Option Refusal
start_refusal w node =
    if are_numbers_spent (system_in w) then Some refused.NumbersSpent else
    if is_live w node then Some refused.BadValue else None

-- a node comes up; a takeover of the same turn has told that already
abbrev pub IsComeUp : World → ℕ → ℕ → Beside → List Event → Type 0
IsComeUp w node moment ATakeover events = events ≡ event.Started node ∷ []
IsComeUp w node moment Nothing events =
    IsChange (event.Started node) node moment request.NodeUp (applied (system_in w) moment node request.NodeUp) events ⊎ IsFull node events

-- a node is started, or why it isn't
abbrev pub IsStarted : World → ℕ → ℕ → Beside → Option Refusal → List Event → Type 0
IsStarted w node moment beside (Some refusal) events = events ≡ event.Refused node moment input.StartNode refusal ∷ []
IsStarted w node moment beside None events = IsComeUp w node moment beside events

-- another node is manager
abbrev pub has_other_manager : World → ℕ → Bool
has_other_manager w node = option_map_or (λ (role : Role). not (role.node == node)) w.manager false

-- a manager elsewhere is told that the node is lost
abbrev pub loss_of : World → ℕ → Request
loss_of w node = request.NodeLost (node_at node (system_in w).nodes ∷ [])

-- the loss of the node is recorded or in doubt behind this event
abbrev pub IsLost : Event → World → ℕ → ℕ → List Event → Type 0
IsLost first w node moment events = IsChange first node moment (loss_of w node) (applied (system_in w) moment node (loss_of w node)) events

-- a node stops; where its loss has no room in the log, it doesn't
abbrev pub IsStopped : World → ℕ → ℕ → Bool → List Event → Type 0
IsStopped w node moment false events = events ≡ event.Stopped node ∷ []
IsStopped w node moment true events = IsLost (event.Stopped node) w node moment events ⊎ IsFull node events

-- a node has left, and there was no room to record its loss
abbrev pub IsLeftFull : ℕ → List Event → Type 0
IsLeftFull node (event.Left n ∷ event.Full m need cap ∷ []) = (n ≡ node) × (m ≡ node)
IsLeftFull node events = ⊥

-- a node leaves, whether its loss has room or not
abbrev pub IsLeft : World → ℕ → ℕ → Bool → List Event → Type 0
IsLeft w node moment false events = events ≡ event.Left node ∷ []
IsLeft w node moment true events = IsLost (event.Left node) w node moment events ⊎ IsLeftFull node events

-- a node stops or leaves
abbrev pub IsGoing : World → ℕ → ℕ → Call → List Event → Type 0
IsGoing w node moment call.Leave events = IsLeft w node moment (has_other_manager w node) events
IsGoing w node moment asked events = IsStopped w node moment (has_other_manager w node) events

-- the events of a call itself, in the world where they begin
abbrev pub IsOwn : World → ℕ → ℕ → Call → Beside → Input → List Event → Type 0
IsOwn w node reading asked beside (input.Ask r) events = FencedOr (fence_of w node r) (IsAsked w node reading r events) events
IsOwn w node reading asked beside (input.Show query) events =
    IsViewed node (acting reading (system_in w)) query (view (system_in w) (role_in w) query) events
IsOwn w node reading asked beside (input.Fetch known) events = events ≡ event.Shown node (acting reading (system_in w)) (input.Fetch known) ∷ []
IsOwn w node reading asked beside input.Compact events = FencedOr (fence w node) (IsCompaction node events) events
IsOwn w node reading asked beside (input.TakeManager on) events = events ≡ []
IsOwn w node reading asked beside input.StartNode events =
    IsStarted w node (acting reading (system_in w)) beside (start_refusal w node) events
IsOwn w node reading asked beside input.StopNode events = IsGoing w node (acting reading (system_in w)) asked events
IsOwn w node reading asked beside (input.Fault place kind) events =
    events ≡ event.Refused node reading (input.Fault place kind) (refused.ParseFault place kind) ∷ []

-- a takeover, if one comes first, and then the call's own events
abbrev pub IsBehindTakeover : World → ℕ → ℕ → Call → Bool → List Event → Type 0
IsBehindTakeover w node reading asked false events = IsOwn w node reading asked Nothing (input_of asked) events
IsBehindTakeover w node reading asked true events =
    TakesOverThen w node reading (nodes_on (input_of asked)) (λ after own. IsOwn after node reading asked ATakeover (input_of asked) own) events

-- a node that isn't live is told so, unless it is to come up
abbrev pub UnlessDown : Bool → ℕ → ℕ → Input → Type 0 → List Event → Type 0
UnlessDown true node reading asked Rest events = events ≡ event.Refused node reading asked refused.NodeDown ∷ []
UnlessDown false node reading asked Rest events = Rest

-- the node is down for this call
abbrev pub is_down : World → ℕ → Input → Bool
is_down w node asked = not (is_live w node) && not (is_start asked)

-- the call is served whole by these events
abbrev pub IsServed : World → ℕ → ℕ → Call → List Event → Type 0
IsServed w node reading asked events =
    UnlessDown (is_down w node (input_of asked)) node reading (input_of asked) (IsBehindTakeover w node reading asked (takes_over w (input_of asked)) events) events

-- the takeover of a call stands or fails, and memory ran out for the rest
abbrev pub IsTakeoverAlone : World → ℕ → ℕ → Input → List Event → Type 0
IsTakeoverAlone w node reading asked events =
    (is_down w node asked ≡ false) × (takes_over w asked ≡ true) × TakesOverThen w node reading (nodes_on asked) (λ after own. own ≡ []) events

-- a turn of this call: its node is one of the cluster, and its events may come one after the other
pub record IsTurn (w : World) (asked : Call) (t : Turn) : Type 0 where
  pub node_there : t.node < length (system_in w).nodes
  pub why_is : t.why ≡ why_of asked
  pub outside : IsFromOutside (input_of asked)
  pub can_come : CanAllCome w t.events

-- the call was served whole in this turn
abbrev pub IsTurnOf : World → Call → Turn → Type 0
IsTurnOf w asked t = IsTurn w asked t × IsServed w t.node t.moment asked t.events

-- the call's turn was cut short behind its takeover
abbrev pub IsCutShort : World → Call → Turn → Type 0
IsCutShort w asked t = IsTurn w asked t × IsTakeoverAlone w t.node t.moment (input_of asked) t.events
