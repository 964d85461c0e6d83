-- Requests that are refused, and what some others do.
use Rattle.std.proofs.Common.{◌≡◌, ℕ, Bool, true, false, List, [], ◌∷◌, refl, Option, None, Some, codes, Result, Ok, Err}
use Rattle.qm_kinds.specs.declared.entry.EntryState.TheVariants as state
use Rattle.qm_model.specs.Common.{Default, Stopped, Started, Paused, Refusal, Name, Number, Request, System, first_system, first_form}
use Rattle.qm_kinds.specs.declared.queue.QueueKind.TheVariants as queue
use Rattle.qm_kinds.specs.declared.refusal.Holder.TheVariants as holder
use Rattle.qm_kinds.specs.declared.refusal.Refusal.TheVariants as refused
use Rattle.qm_kinds.specs.declared.reply.Act.TheVariants as act
use Rattle.qm_kinds.specs.declared.request.Request.TheVariants.{Append, Fill, Drop, DefineForm, DeleteForm, InitializeQueue, SetQueue, StartQueue, StopQueue, AbortJob, DeleteQueue, Merge, SetEntry, Mark, Done, Tick, NodeLost}
use Rattle.qm_kinds.specs.declared.request.StopMode.TheVariants as stop
use Rattle.qm_model.proofs.Site.{Told, answers, after, first_asks, file, listing_file, no_change, print_queue, generic_queue, print_job, batch_job}

-- a started print queue LP with a running and a waiting job, a generic queue GP before it, and the file F
abbrev site : System
site = after (first_system (codes "A")) (first_asks
    (Fill (listing_file (codes "F")) 1
    ∷ Append (file (codes "F") (codes "COM")) (codes "$ EXIT 1")
    ∷ print_queue (codes "LP") true no_change
    ∷ generic_queue (codes "GP") (codes "LP" ∷ [])
    ∷ print_job (codes "LP") (codes "F")
    ∷ print_job (codes "GP") (codes "F")
    ∷ batch_job (codes "SYS$BATCH") (codes "F") None Default
    ∷ []))

-- why one request is refused, or what it does
abbrev asked : Request → List (Result Told Refusal)
asked request = answers site (first_asks (request ∷ []))

abbrev shape : Bool → ℕ → Request
shape wrap length = DefineForm (record { name = codes "X"; number = 1; stock = codes "X"; shape = record { length = length; width = 132; top = 3; bottom = 6; left = 0; right = 0; wrap = wrap } })

pub file_is_named : asked (Drop (listing_file (codes "F"))) ≡ Err (refused.Referenced (holder.Entry 1)) ∷ []
file_is_named = refl

pub file_is_missing : asked (Drop (listing_file (codes "G"))) ≡ Err refused.NoSuchFile ∷ []
file_is_missing = refl

pub no_line_is_left : asked (shape false 9) ≡ Err refused.BadValue ∷ []
no_line_is_left = refl

pub one_line_is_left : asked (shape false 10) ≡ Ok (record { act = act.FormDefined (codes "X"); started = [] }) ∷ []
one_line_is_left = refl

pub form_number_is_taken : asked (DefineForm (record { name = codes "X"; number = 0; stock = codes "X"; shape = first_form.shape })) ≡ Err refused.DuplicateForm ∷ []
form_number_is_taken = refl

pub default_form_stays : asked (DeleteForm (codes "DEFAULT")) ≡ Err (refused.Referenced holder.Always) ∷ []
default_form_stays = refl

pub no_such_form : asked (DeleteForm (codes "X")) ≡ Err (refused.NoSuchForm (Name (codes "X"))) ∷ []
no_such_form = refl

-- a queue of another kind, a queue that isn't stopped, a node that isn't there, a target that is generic, and limits that fit no queue of the kind
pub kind_stays : asked (InitializeQueue (record { name = codes "SYS$BATCH"; kind = queue.Print; node = None; device = None; targets = []; change = no_change; start = false })) ≡ Err refused.DuplicateQueue ∷ []
kind_stays = refl

pub queue_is_started : asked (print_queue (codes "LP") false no_change) ≡ Err (refused.QueueNotStopped Started) ∷ []
queue_is_started = refl

pub no_such_node : asked (InitializeQueue (record { name = codes "Q"; kind = queue.Print; node = Some (codes "Z"); device = None; targets = []; change = no_change; start = false })) ≡ Err (refused.NoSuchNode (codes "Z")) ∷ []
no_such_node = refl

pub target_is_generic : asked (generic_queue (codes "Q") (codes "LP" ∷ codes "GP" ∷ [])) ≡ Err (refused.GenericTarget (codes "GP")) ∷ []
target_is_generic = refl

pub no_targets : asked (generic_queue (codes "Q") []) ≡ Err refused.BadValue ∷ []
no_targets = refl

pub print_queue_has_no_limit : asked (SetQueue (codes "LP") (record { limit = Some 2; characteristics = None; form = None; blocks = None; by_size = None; retain = None })) ≡ Err refused.WrongKind ∷ []
print_queue_has_no_limit = refl

pub sizes_are_crossed : asked (SetQueue (codes "LP") (record { limit = None; characteristics = None; form = None; blocks = Some (9, 2); by_size = None; retain = None })) ≡ Err refused.BadValue ∷ []
sizes_are_crossed = refl

pub form_is_unknown : asked (StartQueue (codes "LP") (record { limit = None; characteristics = None; form = Some (Number 7); blocks = None; by_size = None; retain = None })) ≡ Err (refused.NoSuchForm (Number 7)) ∷ []
form_is_unknown = refl

-- a queue that a generic queue names stays, and so does one that isn't stopped
pub target_stays : answers site (first_asks (DeleteQueue (codes "LP") ∷ StopQueue (codes "LP") stop.Reset ∷ DeleteQueue (codes "LP") ∷ DeleteQueue (codes "GP") ∷ StopQueue (codes "GP") stop.Pause ∷ StopQueue (codes "GP") stop.Next ∷ DeleteQueue (codes "GP") ∷ DeleteQueue (codes "LP") ∷ Done 1 1 ∷ DeleteQueue (codes "LP") ∷ []))
    ≡ (Err (refused.QueueNotStopped Started)
    ∷ Ok (record { act = act.QueueIs (codes "LP") Stopped; started = [] })
    ∷ Err (refused.Referenced (holder.Queue (codes "GP")))
    ∷ Err (refused.QueueNotStopped Started)
    ∷ Ok (record { act = act.QueueIs (codes "GP") Paused; started = [] })
    ∷ Ok (record { act = act.QueueIs (codes "GP") Stopped; started = [] })
    ∷ Ok (record { act = act.QueueDeleted (codes "GP"); started = [] })
    ∷ Err (refused.Referenced (holder.Entry 1))
    ∷ Ok (record { act = act.RunRequeued 1; started = [] })
    ∷ Ok (record { act = act.QueueDeleted (codes "LP"); started = [] })
    ∷ [])
target_stays = refl

-- the only job that runs is meant, and a batch job that may not restart isn't put back
pub job_is_aborted : asked (AbortJob (codes "LP") None true) ≡ Ok (record { act = act.EntryAborting 1; started = [] }) ∷ []
job_is_aborted = refl

pub generic_queue_has_no_run : asked (AbortJob (codes "GP") None false) ≡ Err refused.WrongKind ∷ []
generic_queue_has_no_run = refl

pub no_job_runs : asked (AbortJob (codes "LP") (Some 2) false) ≡ Err refused.NotRunning ∷ []
no_job_runs = refl

pub not_restartable : answers site (first_asks (StartQueue (codes "SYS$BATCH") no_change ∷ AbortJob (codes "SYS$BATCH") None true ∷ AbortJob (codes "SYS$BATCH") None false ∷ Mark 2 (codes "X") ∷ []))
    ≡ (Ok (record { act = act.QueueIs (codes "SYS$BATCH") Started; started = 3 ∷ [] })
    ∷ Err refused.NotRestartable
    ∷ Ok (record { act = act.EntryAborting 3; started = [] })
    ∷ Ok (record { act = act.RunCompleted 2 44; started = [] })
    ∷ [])
not_restartable = refl

-- jobs for print queues don't go into a batch queue, and a queue is merged into itself
pub kinds_stay_apart : asked (Merge (codes "SYS$BATCH") (codes "GP")) ≡ Err refused.WrongKind ∷ []
kinds_stay_apart = refl

pub merged_into_itself : asked (Merge (codes "GP") (codes "GP")) ≡ Ok (record { act = act.Moved 1; started = [] }) ∷ []
merged_into_itself = refl

abbrev set : ℕ → Bool → Bool → Option (Option ℕ) → Request
set entry release hold moment = SetEntry entry (record { release = release; hold = hold; after = moment; priority = None; name = None; characteristics = None; form = None; queue = None; restart = None; retain = None })

pub running_job_is_busy : asked (set 1 false true None) ≡ Err (refused.EntryBusy (state.Running (codes "LP") (codes "A") 1)) ∷ []
running_job_is_busy = refl

pub pending_job_is_not_held : asked (set 2 true false None) ≡ Err refused.NotHeld ∷ []
pending_job_is_not_held = refl

pub held_and_released : answers site (first_asks (set 2 false true None ∷ set 2 false false (Some (Some 5)) ∷ set 2 true false None ∷ set 2 false false (Some (Some 5)) ∷ set 2 false false (Some None) ∷ []))
    ≡ (Ok (record { act = act.EntryIs 2 state.Holding; started = [] })
    ∷ Ok (record { act = act.EntryIs 2 state.Holding; started = [] })
    ∷ Ok (record { act = act.EntryIs 2 state.Pending; started = [] })
    ∷ Ok (record { act = act.EntryIs 2 (state.Timed 5); started = [] })
    ∷ Ok (record { act = act.EntryIs 2 state.Pending; started = [] })
    ∷ [])
held_and_released = refl

-- no run number is left for a request, but for one that the queue manager makes for itself
pub numbers_are_spent : answers (record site { next_run = 4611686018427387904 }) (first_asks (Tick ∷ NodeLost [] ∷ []))
    ≡ Err refused.NumbersSpent ∷ Ok (record { act = act.NodeStopped (codes "A"); started = [] }) ∷ []
numbers_are_spent = refl
