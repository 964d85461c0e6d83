-- Queues are initialized, set, started and deleted.
-- DCL Dictionary, INITIALIZE/QUEUE, SET QUEUE, START/QUEUE and DELETE/QUEUE.
-- This site's own: INITIALIZE/QUEUE of a stopped queue.
use Rattle.std.specs.Prelude.{ℕ, nat_lt, nat_le, Bool, true, false, not, ◌&&◌, ◌||◌, if◌then◌else◌, is_some, is_none, List, [], ◌∷◌, length, filter, find, Option, None, Some, bytes_eq}
use Rattle.std.specs.List.{list_any}
use Rattle.std.specs.Option.{option_map, option_map_or, option_and_then, option_or}
use Rattle.qm_kinds.specs.declared.entry.Entry.{Entry}
use Rattle.qm_kinds.specs.declared.limits.TheConstants.{QUEUES_LIMIT, TARGETS_LIMIT}
use Rattle.qm_kinds.specs.declared.queue.Queue.{Queue}
use Rattle.qm_kinds.specs.declared.queue.QueueChange.{QueueChange}
use Rattle.qm_kinds.specs.declared.queue.QueueKind.{QueueKind}
use Rattle.qm_kinds.specs.declared.queue.QueueState.TheVariants.{Stopped, Started}
use Rattle.qm_kinds.specs.declared.queue.QueueRetain.TheVariants.{Nothing}
use Rattle.qm_kinds.specs.declared.refusal.Refusal.{Refusal}
use Rattle.qm_kinds.specs.declared.refusal.Refusal.TheVariants.{NoSuchQueue, BadValue, DuplicateQueue, QueueNotStopped, QueuesFull, NoSuchNode, GenericTarget}
use Rattle.qm_kinds.specs.declared.reply.Act.TheVariants.{QueueDeleted}
use Rattle.qm_kinds.specs.declared.queue.NewQueue.{NewQueue}
use Rattle.qm_kinds.specs.declared.system.System.{System}
use Rattle.qm_kinds.specs.Names.{default_form}
use Rattle.qm_model.specs.Find.{queue_named}
use Rattle.qm_model.specs.Kinds.{is_generic, job_kind, is_same_kind, is_print_queue, is_same_queue_kind}
use Rattle.qm_model.specs.Outcome.{Accepted, refused_where, first_refusal}
use Rattle.qm_model.specs.Standing.{is_executing, occupies, with_queue}
use Rattle.qm_model.specs.States.{state_on_start, is_stopped}
use Rattle.qm_model.specs.Referring.{refused_by_queue, refused_by_entry}
use Rattle.qm_model.specs.Inserting.{with_new_queue}
use Rattle.qm_model.specs.Settings.{is_bad_change, change_refusal, with_change}
use Rattle.qm_model.specs.Replying.{replied, replied_with_queue}

-- a name stands twice
abbrev pub has_repeats : List (List ℕ) → Bool
has_repeats [] = false
has_repeats (name ∷ names) = list_any (bytes_eq name) names || has_repeats names

-- a generic queue needs 1 to 32 targets, each once, and has no place of its own; an execution queue has no targets
abbrev pub is_misplaced : NewQueue → Bool
is_misplaced new =
    if is_generic new.kind
    then nat_lt (length new.targets) 1 || has_repeats new.targets || nat_lt TARGETS_LIMIT (length new.targets) || is_some new.node || is_some new.device
    else nat_lt 0 (length new.targets)

-- the queue isn't stopped
abbrev pub refused_unless_stopped : Queue → Option Refusal
refused_unless_stopped q = refused_where (not (is_stopped q.state)) (QueueNotStopped q.state)

-- the node that is given isn't one of the cluster
abbrev pub refused_node : System → List ℕ → Option Refusal
refused_node s name = refused_where (not (list_any (λ n. bytes_eq n.name name) s.nodes)) (NoSuchNode name)

-- the name of an execution queue for this kind of job
abbrev pub is_target : System → QueueKind → List ℕ → Bool
is_target s kind name =
    option_map_or (λ q. not (is_generic q.kind) && is_same_kind (job_kind kind) (job_kind q.kind)) (queue_named name s.queues) false

-- the first target that no such queue is
abbrev pub refused_targets : System → NewQueue → Option Refusal
refused_targets s new = option_map (λ name. GenericTarget name) (find (λ name. not (is_target s new.kind name)) new.targets)

-- why a queue can't be initialized so
abbrev pub initialize_refusal : System → NewQueue → Option Refusal
initialize_refusal s new =
    let old = queue_named new.name s.queues in
    first_refusal
    (refused_where (is_bad_change new.change || is_misplaced new) BadValue
    ∷ refused_where (option_map_or (λ q. not (is_same_queue_kind q.kind new.kind)) old false) DuplicateQueue
    ∷ option_and_then refused_unless_stopped old
    ∷ refused_where (is_none old && nat_le QUEUES_LIMIT (length s.queues)) QueuesFull
    ∷ option_and_then (refused_node s) new.node
    ∷ refused_targets s new
    ∷ change_refusal s new.kind new.change
    ∷ [])

-- The queue before any setting is given. Where none is named, an execution queue stands on the calling node, and its
-- device has the queue's name; a print queue has the form DEFAULT mounted.
abbrev pub plain_queue : List ℕ → NewQueue → Queue
plain_queue node new = record {
  name = new.name;
  kind = new.kind;
  state = if new.start then Started else Stopped;
  node = if is_generic new.kind then None else option_or new.node (Some node);
  device = if is_generic new.kind then None else option_or new.device (Some new.name);
  limit = 1;
  characteristics = record { 0 = 0 };
  mounted = if is_print_queue new.kind then Some default_form else None;
  lower = 1;
  upper = 4294967295;
  by_size = true;
  retain = Nothing;
  targets = new.targets;
}

-- the queue of the name goes
abbrev pub without_queue : List ℕ → List Queue → List Queue
without_queue name queues = filter (λ q. not (bytes_eq q.name name)) queues

-- A queue of the name is replaced, and its entries stay.
abbrev pub initialized : System → List ℕ → NewQueue → Accepted
initialized s node new =
    let queue = with_change s new.change (plain_queue node new) in
    replied_with_queue (record s { queues = with_new_queue queue (without_queue new.name s.queues) }) new.name

-- the refusals of SET QUEUE and START/QUEUE
abbrev pub set_queue_refusal : System → List ℕ → QueueChange → Option Refusal
set_queue_refusal s name change = first_refusal
    (refused_where (is_none (queue_named name s.queues)) (NoSuchQueue name)
    ∷ refused_where (is_bad_change change) BadValue
    ∷ option_and_then (λ q. change_refusal s q.kind change) (queue_named name s.queues)
    ∷ [])

-- the settings that are given are set
abbrev pub queue_set : System → List ℕ → QueueChange → Accepted
queue_set s name change = replied_with_queue (record s { queues = with_queue name (with_change s change) s.queues }) name

-- the queue after START/QUEUE
abbrev pub started_queue : Queue → Queue
started_queue q = record q { state = state_on_start q.state }

-- the settings that are given are set, and the queue is started
abbrev pub queue_started : System → List ℕ → QueueChange → Accepted
queue_started s name change =
    replied_with_queue (record s { queues = with_queue name (λ q. started_queue (with_change s change q)) s.queues }) name

-- the entry has a run, and runs in the queue or has it as its home
abbrev pub runs_for : List ℕ → Entry → Bool
runs_for name e = is_executing e && (occupies name e || bytes_eq e.home name)

-- why a queue can't be deleted
abbrev pub delete_queue_refusal : System → List ℕ → Option Refusal
delete_queue_refusal s name = first_refusal
    (refused_where (is_none (queue_named name s.queues)) (NoSuchQueue name)
    ∷ option_and_then refused_unless_stopped (queue_named name s.queues)
    ∷ refused_by_queue (λ q. list_any (bytes_eq name) q.targets) s.queues
    ∷ refused_by_entry (runs_for name) s.entries
    ∷ [])

-- its entries go with the queue
abbrev pub queue_deleted : System → List ℕ → Accepted
queue_deleted s name =
    replied (record s { queues = without_queue name s.queues; entries = filter (λ e. not (bytes_eq e.home name)) s.entries }) (QueueDeleted name)
