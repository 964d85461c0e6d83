-- The turn that a call makes where no disk fails and there is room.
-- OpenVMS System Manager's Manual, Managing the Queue Manager and Queue Database, on failover. This site's own: turns, epochs, and
-- which queue file holds a compaction, for which the first stands here.
use Rattle.std.specs.Prelude.{◌≡◌, ℕ, ◌+◌, Bool, true, false, is_none, ◌||◌, not, List, [], ◌∷◌, Option, None, Some, Result, Ok, Err, unwrap_or, IfSome}
use Rattle.std.specs.List.{AllByRecursion}
use Rattle.qm_model.specs.Common.{Input, Query, Row, Refusal, Request, System, applied, IsLawful, Accepted, view, acting, system_of}
use Rattle.qm_kinds.specs.declared.input.Input.TheVariants as input
use Rattle.qm_kinds.specs.declared.refusal.Refusal.TheVariants as refused
use Rattle.qm_kinds.specs.declared.request.Request.TheVariants as request
use Rattle.qm_record.specs.Spelling.{HasSpelling}
use Rattle.qm_history.specs.declared.call.Call.{Call}
use Rattle.qm_history.specs.declared.call.Call.TheVariants as call
use Rattle.qm_history.specs.declared.event.Event.{Event}
use Rattle.qm_history.specs.declared.event.Event.TheVariants as event
use Rattle.qm_history.specs.declared.turn.Turn.{Turn}
use Rattle.qm_history.specs.declared.world.World.{World}
use Rattle.qm_history.specs.Calls.{input_of, why_of}
use Rattle.qm_history.specs.Records.{record_of}
use Rattle.qm_history.specs.Step.{after_event}
use Rattle.qm_history.specs.Takeover.{takes_over, nodes_on, may_after, is_named}
use Rattle.qm_history.specs.Turn.{Beside, Nothing, ATakeover, fence, fence_of, start_refusal, is_down, has_other_manager, loss_of}
use Rattle.qm_history.specs.World.{system_in, role_in, epoch_of, log_read, gone_in, up_with}

-- an accepted request is done, and another one refused
abbrev pub decided : ℕ → ℕ → Request → Result Accepted Refusal → Event
decided node now asked (Ok accepted) = event.Done node now asked accepted.reply
decided node now asked (Err refusal) = event.Refused node now (input.Ask asked) refusal

-- a request is asked of the system, as the moment finds it
abbrev pub asked_of : World → ℕ → ℕ → Request → Event
asked_of w node now asked = decided node now asked (applied (system_in w) now node asked)

-- rows are shown, or why there are none
abbrev pub viewed : ℕ → ℕ → Query → Result (List Row) Refusal → Event
viewed node now query (Ok rows) = event.Shown node now (input.Show query)
viewed node now query (Err refusal) = event.Refused node now (input.Show query) refusal

-- the fence, where the node holds another epoch than the manager's
abbrev pub fenced_or : Option Event → Event → Event
fenced_or None e = e
fenced_or (Some fenced) e = fenced

-- the image is in a file
abbrev pub compacted : World → ℕ → Event
compacted w node = event.Compacted node (unwrap_or (epoch_of w) 0) 1

-- a node comes up, and a manager of another turn is told
abbrev pub come_up : World → ℕ → ℕ → Beside → List Event
come_up w node now ATakeover = event.Started node ∷ []
come_up w node now Nothing = event.Started node ∷ asked_of w node now request.NodeUp ∷ []

-- a node is started, or why it isn't
abbrev pub started : World → ℕ → ℕ → Beside → Option Refusal → List Event
started w node now beside (Some refusal) = event.Refused node now input.StartNode refusal ∷ []
started w node now beside None = come_up w node now beside

-- a node that leaves, and one that stops
abbrev pub goes : ℕ → Call → Event
goes node call.Leave = event.Left node
goes node asked = event.Stopped node

-- a node goes, and a manager elsewhere is told of its loss
abbrev pub going : Event → World → ℕ → ℕ → Bool → List Event
going first w node now false = first ∷ []
going first w node now true = first ∷ asked_of w node now (loss_of w node) ∷ []

-- what a call does itself, alone or behind a takeover
abbrev pub own_events : World → ℕ → ℕ → Call → Beside → Input → List Event
own_events w node reading asked beside (input.Ask r) = fenced_or (fence_of w node r) (asked_of w node (acting reading (system_in w)) r) ∷ []
own_events w node reading asked beside (input.Show query) = viewed node (acting reading (system_in w)) query (view (system_in w) (role_in w) query) ∷ []
own_events w node reading asked beside (input.Fetch known) = event.Shown node (acting reading (system_in w)) (input.Fetch known) ∷ []
own_events w node reading asked beside input.Compact = fenced_or (fence w node) (compacted w node) ∷ []
own_events w node reading asked beside (input.TakeManager on) = []
own_events w node reading asked beside input.StartNode = started w node (acting reading (system_in w)) beside (start_refusal w node)
own_events w node reading asked beside input.StopNode = going (goes node asked) w node (acting reading (system_in w)) (has_other_manager w node)
own_events w node reading asked beside (input.Fault place kind) = event.Refused node reading (input.Fault place kind) (refused.ParseFault place kind) ∷ []

-- the takeover of a node, where reading tells this of the record in doubt
abbrev pub takeover : World → ℕ → ℕ → Option (List (List ℕ)) → Option Bool → Event
takeover w node reading on kept =
    let s : System = system_of (log_read w kept) in
    event.Took node (acting reading s) (w.greatest + 1) (gone_in w s) (up_with w node s) (may_after s on) kept

-- a node that is named takes over, and the call follows; one that isn't finds that out behind its epoch
abbrev pub taking : World → ℕ → ℕ → Call → Option Bool → Bool → List Event
taking w node reading asked kept true =
    let took : Event = takeover w node reading (nodes_on (input_of asked)) kept in
    took ∷ own_events (after_event w took) node reading asked ATakeover (input_of asked)
taking w node reading asked kept false = event.TakeDoubt node (w.greatest + 1) kept ∷ event.NoManager node ∷ []

-- beside a manager a node that isn't named is refused before anything else is done
abbrev pub unless_refused_at_once : Bool → ℕ → List Event → List Event
unless_refused_at_once true node events = event.NoManager node ∷ []
unless_refused_at_once false node events = events

-- a takeover comes first where there is need of one
abbrev pub behind_takeover : World → ℕ → ℕ → Call → Option Bool → Bool → List Event
behind_takeover w node reading asked kept false = own_events w node reading asked Nothing (input_of asked)
behind_takeover w node reading asked kept true =
    let on : Option (List (List ℕ)) = nodes_on (input_of asked) in
    unless_refused_at_once (not (is_none w.manager || is_named (system_in w) on node)) node
    (taking w node reading asked kept (is_named (system_of (log_read w kept)) on node))

-- a node that is down is told so
abbrev pub unless_down : Bool → ℕ → ℕ → Input → List Event → List Event
unless_down true node reading asked events = event.Refused node reading asked refused.NodeDown ∷ []
unless_down false node reading asked events = events

-- the events of a call, where reading tells this of the record in doubt
abbrev pub events_of_call : World → ℕ → ℕ → Option Bool → Call → List Event
events_of_call w node reading kept asked =
    unless_down (is_down w node (input_of asked)) node reading (input_of asked) (behind_takeover w node reading asked kept (takes_over w (input_of asked)))

-- the turn of a call of a node, whose clock told this
abbrev pub turn_of : World → ℕ → ℕ → Option Bool → Call → Turn
turn_of w node reading kept asked =
    record { node = node; why = why_of asked; moment = reading; events = events_of_call w node reading kept asked }

-- what the input asks for keeps the rules on names and lists
abbrev pub IsLawfulInput : System → ℕ → Input → Type 0
IsLawfulInput s node (input.Ask asked) = IsLawful s node asked
IsLawfulInput s node asked = Unit {0}

-- what the events record has a spelling
abbrev pub AreSpelled : List Event → Type 0
AreSpelled events = AllByRecursion (λ (e : Event). IfSome (record_of e) HasSpelling) events

-- what is told of a world alone, and neither of a disk, nor of room, nor of a queue file
abbrev pub is_determined : Event → Bool
is_determined (event.Done node moment asked reply) = true
is_determined (event.Refused node moment asked refusal) = true
is_determined (event.Shown node moment asked) = true
is_determined (event.NoManager node) = true
is_determined (event.Took node moment epoch gone up may kept) = true
is_determined (event.Fenced node held current) = true
is_determined (event.Stopped node) = true
is_determined (event.Left node) = true
is_determined (event.Started node) = true
is_determined (event.Doubt node moment asked) = false
is_determined (event.Full node need cap) = false
is_determined (event.TakeDoubt node tried kept) = false
is_determined (event.Compacted node epoch file) = false
is_determined (event.CompactDoubt node) = false

-- each of these events is
abbrev pub AreAllDetermined : List Event → Type 0
AreAllDetermined events = AllByRecursion (λ (e : Event). is_determined e ≡ true) events

-- the node isn't named, and that is all
abbrev pub IsUnnamedAlone : List Event → Type 0
IsUnnamedAlone (event.NoManager node ∷ []) = Unit {0}
IsUnnamedAlone events = ⊥

-- no disk failed, all had room, and nothing was compacted; a takeover failed only where the node isn't named
abbrev pub AreDetermined : List Event → Type 0
AreDetermined [] = Unit {0}
AreDetermined (event.TakeDoubt node tried kept ∷ events) = IsUnnamedAlone events
AreDetermined (e ∷ events) = (is_determined e ≡ true) × AreAllDetermined events
