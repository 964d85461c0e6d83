-- What is told of events and of lists of them.
-- OpenVMS System Manager's Manual, Managing the Queue Manager and Queue Database, on failover. This site's own: epochs.
use Rattle.std.specs.Prelude.{◌≡◌, ◌<◌, ℕ, Bool, true, false, List, [], ◌∷◌, ◌++◌, filter_map, flat_map, Option, None, Some}
use Rattle.std.specs.List.{list_any}
use Rattle.qm_model.specs.Common.{Input, Record, request_record}
use Rattle.qm_kinds.specs.declared.input.Input.TheVariants as input
use Rattle.qm_kinds.specs.declared.request.Request.TheVariants as request
use Rattle.qm_history.specs.declared.event.Event.{Event}
use Rattle.qm_history.specs.declared.event.Event.TheVariants as event
use Rattle.qm_history.specs.declared.turn.Turn.{Turn}

-- the events of turns, in their order
abbrev pub events_of : List Turn → List Event
events_of turns = flat_map (λ (t : Turn). t.events) turns

-- the epoch that a takeover begins
abbrev pub epoch_taken : Event → Option ℕ
epoch_taken (event.Took node moment epoch gone up may kept) = Some epoch
epoch_taken (event.Done node moment asked reply) = None
epoch_taken (event.Refused node moment asked refusal) = None
epoch_taken (event.Shown node moment asked) = None
epoch_taken (event.Doubt node moment asked) = None
epoch_taken (event.Full node need cap) = None
epoch_taken (event.NoManager node) = None
epoch_taken (event.TakeDoubt node tried kept) = None
epoch_taken (event.Fenced node held current) = None
epoch_taken (event.Stopped node) = None
epoch_taken (event.Left node) = None
epoch_taken (event.Started node) = None
epoch_taken (event.Compacted node epoch file) = None
epoch_taken (event.CompactDoubt node) = None

-- the epochs of the takeovers that stand, in their order
abbrev pub epochs_taken : List Event → List ℕ
epochs_taken events = filter_map epoch_taken events

-- each number is above the one before it, and the first one above this
abbrev pub RiseFrom : ℕ → List ℕ → Type 0
RiseFrom n [] = Unit {0}
RiseFrom n (m ∷ numbers) = (n < m) × RiseFrom m numbers

-- the later list begins with the earlier one
abbrev pub Begins : List Record → List Record → Type 0
Begins earlier later = (more : List Record) × (later ≡ earlier ++ more)

-- refusals, listings, what has no room, nodes that may not be manager, fenced calls and compactions
abbrev pub is_without_change : Event → Bool
is_without_change (event.Refused node moment asked refusal) = true
is_without_change (event.Shown node moment asked) = true
is_without_change (event.Full node need cap) = true
is_without_change (event.NoManager node) = true
is_without_change (event.Fenced node held current) = true
is_without_change (event.Compacted node epoch file) = true
is_without_change (event.Done node moment asked reply) = false
is_without_change (event.Doubt node moment asked) = false
is_without_change (event.Took node moment epoch gone up may kept) = false
is_without_change (event.TakeDoubt node tried kept) = false
is_without_change (event.Stopped node) = false
is_without_change (event.Left node) = false
is_without_change (event.Started node) = false
is_without_change (event.CompactDoubt node) = false

-- the record that an event acknowledges: a request that was done, or a takeover that stands
abbrev pub acknowledged : Event → Option Record
acknowledged (event.Done node moment asked reply) = Some (request_record moment node asked)
acknowledged (event.Took node moment epoch gone up may kept) = Some (request_record moment node (request.Took epoch gone up may))
acknowledged (event.Refused node moment asked refusal) = None
acknowledged (event.Shown node moment asked) = None
acknowledged (event.Doubt node moment asked) = None
acknowledged (event.Full node need cap) = None
acknowledged (event.NoManager node) = None
acknowledged (event.TakeDoubt node tried kept) = None
acknowledged (event.Fenced node held current) = None
acknowledged (event.Stopped node) = None
acknowledged (event.Left node) = None
acknowledged (event.Started node) = None
acknowledged (event.Compacted node epoch file) = None
acknowledged (event.CompactDoubt node) = None

-- what the event tells of the record in doubt, if it tells of it
abbrev pub told_of_doubt : Event → Option Bool
told_of_doubt (event.Took node moment epoch gone up may kept) = kept
told_of_doubt (event.TakeDoubt node tried kept) = kept
told_of_doubt (event.Done node moment asked reply) = None
told_of_doubt (event.Refused node moment asked refusal) = None
told_of_doubt (event.Shown node moment asked) = None
told_of_doubt (event.Doubt node moment asked) = None
told_of_doubt (event.Full node need cap) = None
told_of_doubt (event.NoManager node) = None
told_of_doubt (event.Fenced node held current) = None
told_of_doubt (event.Stopped node) = None
told_of_doubt (event.Left node) = None
told_of_doubt (event.Started node) = None
told_of_doubt (event.Compacted node epoch file) = None
told_of_doubt (event.CompactDoubt node) = None

-- the event tells that the node holds another epoch than the manager's
abbrev pub is_fence : Event → Bool
is_fence (event.Fenced node held current) = true
is_fence (event.Done node moment asked reply) = false
is_fence (event.Refused node moment asked refusal) = false
is_fence (event.Shown node moment asked) = false
is_fence (event.Doubt node moment asked) = false
is_fence (event.Full node need cap) = false
is_fence (event.NoManager node) = false
is_fence (event.Took node moment epoch gone up may kept) = false
is_fence (event.TakeDoubt node tried kept) = false
is_fence (event.Stopped node) = false
is_fence (event.Left node) = false
is_fence (event.Started node) = false
is_fence (event.Compacted node epoch file) = false
is_fence (event.CompactDoubt node) = false

-- one of the events does
abbrev pub has_fence : List Event → Bool
has_fence events = list_any is_fence events

-- TICK and COMPACT are for a node that holds the manager's epoch
abbrev pub IsForManager : Input → Type 0
IsForManager (input.Ask request.Tick) = Unit {0}
IsForManager input.Compact = Unit {0}
IsForManager asked = ⊥

-- a node takes over or tries to
abbrev pub is_takeover : Event → Bool
is_takeover (event.Took node moment epoch gone up may kept) = true
is_takeover (event.TakeDoubt node tried kept) = true
is_takeover (event.Done node moment asked reply) = false
is_takeover (event.Refused node moment asked refusal) = false
is_takeover (event.Shown node moment asked) = false
is_takeover (event.Doubt node moment asked) = false
is_takeover (event.Full node need cap) = false
is_takeover (event.NoManager node) = false
is_takeover (event.Fenced node held current) = false
is_takeover (event.Stopped node) = false
is_takeover (event.Left node) = false
is_takeover (event.Started node) = false
is_takeover (event.Compacted node epoch file) = false
is_takeover (event.CompactDoubt node) = false

-- the node takes over, comes up or goes, and something else of the same turn may follow
abbrev pub may_come_first : Event → Bool
may_come_first (event.Took node moment epoch gone up may kept) = true
may_come_first (event.TakeDoubt node tried kept) = true
may_come_first (event.Stopped node) = true
may_come_first (event.Left node) = true
may_come_first (event.Started node) = true
may_come_first (event.Done node moment asked reply) = false
may_come_first (event.Refused node moment asked refusal) = false
may_come_first (event.Shown node moment asked) = false
may_come_first (event.Doubt node moment asked) = false
may_come_first (event.Full node need cap) = false
may_come_first (event.NoManager node) = false
may_come_first (event.Fenced node held current) = false
may_come_first (event.Compacted node epoch file) = false
may_come_first (event.CompactDoubt node) = false

-- one event; or two, of which the second is no takeover
abbrev pub AreOneOrTwo : List Event → Type 0
AreOneOrTwo [] = ⊥
AreOneOrTwo (e ∷ []) = Unit {0}
AreOneOrTwo (e ∷ next ∷ []) = (may_come_first e ≡ true) × (is_takeover next ≡ false)
AreOneOrTwo (e ∷ next ∷ other ∷ events) = ⊥

-- nothing but a compaction happened in the turn
abbrev pub IsCompactionAlone : Turn → Type 0
IsCompactionAlone t = (node : ℕ) × (epoch : ℕ) × (file : ℕ) × (t.events ≡ event.Compacted node epoch file ∷ [])
