-- When a node takes the role of queue manager before its call is served, and what comes of that.
-- OpenVMS System Manager's Manual, Managing the Queue Manager and Queue Database, on failover; DCL Dictionary,
-- START/QUEUE/MANAGER, /ON. This site's own: START/QUEUE/MANAGER as a move to the calling node, and the list without preference.
use Rattle.std.specs.Prelude.{◌≡◌, ◌≢◌, ℕ, ◌+◌, Bool, true, false, is_none, ◌||◌, not, List, [], ◌∷◌, filter, Option, None, Some, IsNone}
use Rattle.qm_model.specs.Common.{Input, System, is_among, node_at, acting, system_of}
use Rattle.qm_kinds.specs.declared.input.Input.TheVariants as input
use Rattle.qm_kinds.specs.declared.request.Request.TheVariants as request
use Rattle.qm_history.specs.declared.event.Event.{Event}
use Rattle.qm_history.specs.declared.event.Event.TheVariants as event
use Rattle.qm_history.specs.declared.world.World.{World}
use Rattle.qm_history.specs.Accepted.{cluster}
use Rattle.qm_history.specs.Step.{after_event}
use Rattle.qm_history.specs.World.{system_in, log_read}

-- START/QUEUE/MANAGER takes the role over; so does each call while no manager is up, but for a node that stops or leaves
abbrev pub takes_over : World → Input → Bool
takes_over w (input.TakeManager on) = true
takes_over w input.StopNode = false
takes_over w (input.Fault place kind) = false
takes_over w asked = is_none w.manager

-- the list that /ON gives
abbrev pub nodes_on : Input → Option (List (List ℕ))
nodes_on (input.TakeManager on) = on
nodes_on asked = None

-- the nodes that may be manager: those of /ON in the cluster's order, all of them for *, and without /ON the same as before
abbrev pub may_after : System → Option (List (List ℕ)) → List (List ℕ)
may_after s None = s.may
may_after s (Some []) = cluster s
may_after s (Some (name ∷ names)) = filter (is_among (name ∷ names)) (cluster s)

-- the node may be manager
abbrev pub is_named : System → Option (List (List ℕ)) → ℕ → Bool
is_named s on node = is_among (may_after s on) (node_at node s.nodes)

-- the greatest size of the master file
abbrev pub master_cap : ℕ
master_cap = 1048576

-- What follows an epoch that was recorded or tried, where the takeover fails. Nothing, where a disk failed first; else the
-- files were read, so nothing is in doubt any more. Then the record is in doubt, it or the epoch has no room, or the node isn't
-- named. A full master may have refused the epoch itself, before the list was looked at. An epoch is tried only once the files
-- were read, so where nothing follows it, nothing is in doubt any more either.
abbrev pub IsFailure : World → World → ℕ → ℕ → Option (List (List ℕ)) → ℕ → List Event → Type 0
IsFailure before w node reading on tried [] = tried ≡ before.greatest + 1 → IsNone w.doubt
IsFailure before w node reading on tried (event.Doubt n moment (request.Took epoch gone up may) ∷ []) =
    (n ≡ node) × (moment ≡ acting reading (system_in w)) × (may ≡ may_after (system_in w) on) × (tried ≡ before.greatest + 1) × IsNone w.doubt
IsFailure before w node reading on tried (event.Full n need cap ∷ []) =
    (n ≡ node) × (cap ≢ master_cap → tried ≡ before.greatest + 1) × (tried ≡ before.greatest + 1 → is_named (system_in w) on node ≡ true) × IsNone w.doubt
IsFailure before w node reading on tried (event.NoManager n ∷ []) =
    (n ≡ node) × (is_named (system_in w) on node ≡ false) × (tried ≡ before.greatest + 1) × IsNone w.doubt
IsFailure before w node reading on tried events = ⊥

-- The takeover stands, and what is behind it follows; or it fails, and that is all.
abbrev pub StandsOrFails : World → ℕ → ℕ → Option (List (List ℕ)) → (World → List Event → Type 0) → List Event → Type 0
StandsOrFails w node reading on Then (event.Took n moment epoch gone up may kept ∷ events) =
    (n ≡ node) × (moment ≡ acting reading (system_of (log_read w kept))) × (may ≡ may_after (system_of (log_read w kept)) on)
    × Then (after_event w (event.Took n moment epoch gone up may kept)) events
StandsOrFails w node reading on Then (event.TakeDoubt n tried kept ∷ events) =
    (n ≡ node) × IsFailure w (after_event w (event.TakeDoubt n tried kept)) node reading on tried events
StandsOrFails w node reading on Then events = ⊥

-- beside a manager a node that isn't named is refused before anything else is done
abbrev pub UnlessRefused : Bool → ℕ → Type 0 → List Event → Type 0
UnlessRefused true node Rest events = events ≡ event.NoManager node ∷ []
UnlessRefused false node Rest events = Rest

-- a takeover comes first, and behind one that stands follow other events
abbrev pub TakesOverThen : World → ℕ → ℕ → Option (List (List ℕ)) → (World → List Event → Type 0) → List Event → Type 0
TakesOverThen w node reading on Then events =
    UnlessRefused (not (is_none w.manager || is_named (system_in w) on node)) node (StandsOrFails w node reading on Then events) events
