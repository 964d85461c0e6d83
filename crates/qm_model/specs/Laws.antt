-- What the laws say, and of what: of accepted requests, of settling, of choices, and of listings that end.
-- This site's own: all of it.
use Rattle.std.specs.Prelude.{◌≡◌, ◌≢◌, ◌<◌, ℕ, true, false, length, List, map, All, Option, None, Some, Ok, Err}
use Rattle.std.specs.List.{range_with_len}
use Rattle.std.specs.declared.cmp.Ordering.TheVariants.{Less}
use Rattle.qm_kinds.specs.declared.entry.Entry.{Entry}
use Rattle.qm_kinds.specs.declared.limits.TheConstants.{END_OF_RUNS}
use Rattle.qm_kinds.specs.declared.query.Listing.{Listing}
use Rattle.qm_kinds.specs.declared.query.Query.{Query}
use Rattle.qm_kinds.specs.declared.refusal.Refusal.TheVariants.{NoMore}
use Rattle.qm_kinds.specs.declared.request.Request.{Request}
use Rattle.qm_kinds.specs.declared.run.Start.{Start}
use Rattle.qm_kinds.specs.declared.system.System.{System}
use Rattle.qm_model.specs.Applied.{applied, at_moment, change_of, first_refusal_of}
use Rattle.qm_model.specs.Before.{before}
use Rattle.qm_model.specs.Built.{is_built}
use Rattle.qm_model.specs.Consistent.{IsConsistent}
use Rattle.qm_model.specs.Due.{due}
use Rattle.qm_model.specs.Find.{name_cmp}
use Rattle.qm_model.specs.Fitting.{fits}
use Rattle.qm_model.specs.Outcome.{Accepted}
use Rattle.qm_model.specs.Rows.{ManagerRole, view}
use Rattle.qm_model.specs.Settling.{Choice, next_choice, not_started, settled}
use Rattle.qm_model.specs.Standing.{node_at}
use Rattle.qm_model.specs.Starting.{HasNoneToStart, as_pending}
use Rattle.qm_model.specs.States.{stopped_when_idle}

-- this holds of each accepted request: of the system before it, its moment, and what it is accepted with
abbrev pub OfEachAccepted : (System → ℕ → Accepted → Type 0) → Type 0
OfEachAccepted Holds = (s : System) (now node : ℕ) (request : Request) (a : Accepted) → applied s now node request ≡ Ok a → Holds s now a

-- it holds of each that is accepted and built
abbrev pub OfEachBuilt : (System → ℕ → Accepted → Type 0) → Type 0
OfEachBuilt Holds =
    (s : System) (now node : ℕ) (request : Request) (a : Accepted) → is_built request ≡ true → applied s now node request ≡ Ok a → Holds s now a

-- the names of the system's nodes
abbrev pub node_names : System → List (List ℕ)
node_names s = map (λ n. n.name) s.nodes

-- a request that is built, and comes from a node of the system
abbrev pub IsBuiltOfNode : System → ℕ → Request → Type 0
IsBuiltOfNode s node request = (node < length s.nodes) × (is_built request ≡ true)

-- each of these requests that is accepted keeps a consistent system consistent
abbrev pub KeepConsistent : (System → ℕ → Request → Type 0) → Type 0
KeepConsistent AreThese =
    (s : System) (now node : ℕ) (request : Request) (a : Accepted) → IsConsistent s → AreThese s node request
    → applied s now node request ≡ Ok a → IsConsistent a.system

-- the system behind the change of a request, before the jobs that can start are started
abbrev pub changed_by : System → ℕ → ℕ → Request → System
changed_by s now node request = stopped_when_idle (change_of (due now (at_moment now s)) now (node_at node s.nodes) request).system

-- the change of each of these requests that nothing refuses keeps a consistent system consistent, also before jobs are started
abbrev pub ChangesKeepConsistent : (System → ℕ → Request → Type 0) → Type 0
ChangesKeepConsistent AreThese =
    (s : System) (now node : ℕ) (request : Request) → IsConsistent s → AreThese s node request
    → first_refusal_of s (node_at node s.nodes) request ≡ None → IsConsistent (changed_by s now node request)

-- no queue of the system has a place and a job that fits it, unless the numbers of runs are spent
abbrev pub HasStartedAll : System → Type 0
HasStartedAll s = s.next_run < END_OF_RUNS → All (HasNoneToStart s) s.queues

-- this holds of each system, of the system that it is when it is settled, and of what was started on the way
abbrev pub OfEachSettled : (System → System → List Start → Type 0) → Type 0
OfEachSettled Holds = (s : System) → Holds s (settled s).system (settled s).started

-- the system is the same but for its entries and the number of the next run
abbrev pub IsSameButForEntries : System → System → Type 0
IsSameButForEntries old new = record new { entries = old.entries; next_run = old.next_run } ≡ old

-- the runs of the starts are numbered from this number on, in their order
abbrev pub AreNumberedFrom : ℕ → List Start → Type 0
AreNumberedFrom number started = map (λ start. start.run) started ≡ range_with_len number (length started)

-- the entries that no start names stay as they are
abbrev pub OthersStay : List Start → List Entry → List Entry → Type 0
OthersStay started old new = not_started started new ≡ not_started started old

-- the entries are the same, each in its place, but for their states
abbrev pub AreSameButForStates : List Entry → List Entry → Type 0
AreSameButForStates old new = map as_pending new ≡ map as_pending old

-- this holds of each system and of the job that starts next, with the queue that starts it
abbrev pub OfEachChoice : (System → Choice → Type 0) → Type 0
OfEachChoice Holds = (s : System) (c : Choice) → next_choice s ≡ Some c → Holds s c

-- no other job that fits the queue comes before this one
abbrev pub IsFirstJob : System → Choice → Type 0
IsFirstJob s c = All (λ e. fits s e c.queue ≡ true → before c.queue e c.entry ≡ false) s.entries

-- no queue of a lesser name has a job to start
abbrev pub IsFirstByName : System → Choice → Type 0
IsFirstByName s c = All (λ q. name_cmp q.name c.queue.name ≡ Less → HasNoneToStart s q) s.queues

-- this holds of each query, asked of each system, with a queue manager or without
abbrev pub OfEachQuery : (System → Option ManagerRole → Query → Type 0) → Type 0
OfEachQuery Holds = (s : System) (manager : Option ManagerRole) (q : Query) → Holds s manager q

-- this holds of each query that is answered by that there is no more, and of the listing that the answer names
abbrev pub OfEachEnd : (Query → Listing → Type 0) → Type 0
OfEachEnd Holds = OfEachQuery (λ s manager q. (what : Listing) → view s manager q ≡ Err (NoMore what) → Holds q what)

-- no query is answered by that there is no more of this listing
abbrev pub NeverEnds : Listing → Type 0
NeverEnds what = OfEachQuery (λ s manager q. view s manager q ≢ Err (NoMore what))
