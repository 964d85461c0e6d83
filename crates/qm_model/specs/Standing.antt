-- Where an entry stands, and how an entry or a queue takes the place of the one under its number or name.
-- OpenVMS System Services Reference Manual, $GETQUI, on the jobs that stand in a queue.
-- This site's own: that retained entries stand in their home.
use Rattle.std.specs.Prelude.{◌≡◌, ◌≢◌, ℕ, ◌==◌, Bool, true, false, if◌then◌else◌, List, [], ◌∷◌, map, flat_map, unwrap_or, option_to_list, slice_get, count_by, Option, bytes_eq}
use Rattle.std.specs.Option.{option_map_or}
use Rattle.qm_kinds.specs.declared.entry.Entry.{Entry}
use Rattle.qm_kinds.specs.declared.entry.EntryState.TheVariants.{Running, Aborting}
use Rattle.qm_kinds.specs.declared.entry.Fate.{Fate}
use Rattle.qm_kinds.specs.declared.queue.Queue.{Queue}
use Rattle.qm_kinds.specs.declared.system.Node.{Node}
use Rattle.qm_model.specs.JobStates.{runs_in, runs_on, run_of}

-- the queue where an entry runs, while its run lasts, and else its home
abbrev pub stands_in : Entry → List ℕ
stands_in e = unwrap_or (runs_in e.state) e.home

-- the entry has a run in this queue, be it aborting or not
abbrev pub occupies : List ℕ → Entry → Bool
occupies queue e = option_map_or (λ name. bytes_eq name queue) (runs_in e.state) false

-- the entry has a run on this node, be it aborting or not
abbrev pub is_run_on : List ℕ → Entry → Bool
is_run_on node e = option_map_or (λ name. bytes_eq name node) (runs_on e.state) false

-- the entry's run has this number
abbrev pub has_run : ℕ → Entry → Bool
has_run run e = option_map_or (λ r. r == run) (run_of e.state) false

-- the entry has a run, be it aborting or not
abbrev pub is_executing : Entry → Bool
is_executing e = option_map_or (λ run. true) (run_of e.state) false

-- the entries, with what becomes of one of them: another entry, or none
abbrev pub with_entry : ℕ → (Entry → Option Entry) → List Entry → List Entry
with_entry number outcome entries = flat_map (λ e. if e.number == number then option_to_list (outcome e) else e ∷ []) entries

-- the queues, with what becomes of the one of this name
abbrev pub with_queue : List ℕ → (Queue → Queue) → List Queue → List Queue
with_queue name change queues = map (λ q. if bytes_eq q.name name then change q else q) queues

-- the name of the node at this place of the cluster
abbrev pub node_at : ℕ → List Node → List ℕ
node_at place nodes = option_map_or (λ n. n.name) (slice_get nodes place) []

-- the entry stands in exactly one of the queues
abbrev pub StandsInOne : List Queue → Entry → Type 0
StandsInOne queues e = count_by (λ q. bytes_eq q.name (stands_in e)) queues ≡ 1

-- this holds of each entry that runs, and of the queue where it runs
abbrev pub OfEachRunning : (Entry → List ℕ → Type 0) → Type 0
OfEachRunning Holds = (e : Entry) (queue node : List ℕ) (run : ℕ) → e.state ≡ Running queue node run → Holds e queue

-- this holds of each entry that is aborting, and of the queue where it has its run
abbrev pub OfEachAborting : (Entry → List ℕ → Type 0) → Type 0
OfEachAborting Holds = (e : Entry) (queue node : List ℕ) (run : ℕ) (fate : Fate) → e.state ≡ Aborting queue node run fate → Holds e queue

-- the entry doesn't run
abbrev pub IsNotRunning : Entry → Type 0
IsNotRunning e = (queue node : List ℕ) (run : ℕ) → e.state ≢ Running queue node run

-- the entry isn't aborting
abbrev pub IsNotAborting : Entry → Type 0
IsNotAborting e = (queue node : List ℕ) (run : ℕ) (fate : Fate) → e.state ≢ Aborting queue node run fate
