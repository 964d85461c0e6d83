-- Requests that break two rules at once: they are told the first.
use Rattle.std.proofs.Common.{◌≡◌, ℕ, true, false, List, [], ◌∷◌, refl, map, Option, None, Some, codes, replicate}
use Rattle.qm_model.specs.Common.{File, NewQueue, QueueChange, QueueKind, Started, Refusal, EntryChange, Job, Name, Number, Request, System, first_refusal_of, first_system, first_form, first_queue, entry_of}
use Rattle.qm_kinds.specs.declared.queue.QueueKind.TheVariants as queue
use Rattle.qm_kinds.specs.declared.entry.EntryState.TheVariants as state
use Rattle.qm_kinds.specs.declared.refusal.Holder.TheVariants as holder
use Rattle.qm_kinds.specs.declared.refusal.Refusal.TheVariants as refused
use Rattle.qm_kinds.specs.declared.request.Request.TheVariants.{Append, Fill, Drop, DefineForm, DeleteForm, DefineCharacteristic, DeleteCharacteristic, InitializeQueue, SetQueue, StartQueue, StopQueue, AbortJob, DeleteQueue, Merge, Submit, SetEntry, DeleteEntry, Mark, Done, Tick, NodeUp, NodeLost, Took}
use Rattle.qm_kinds.specs.declared.request.StopMode.TheVariants as stop
use Rattle.qm_model.proofs.Site.{after, first_asks, file, listing_file, no_change, print_queue, generic_queue, a_print_job, a_batch_job}

-- A started print queue LP on the form LETTER with the characteristic DUPLEX, two started generic queues that name it, a job
-- that runs in LP, one that is pending, and a batch job, all of the file F. The jobs in LP have form and characteristic too.
abbrev lp_change : QueueChange
lp_change = record no_change { characteristics = Some (Name (codes "DUPLEX") ∷ []); form = Some (Name (codes "LETTER")) }

abbrev lp_job : Job
lp_job = record (a_print_job (codes "LP") (codes "F")) { characteristics = Number 7 ∷ []; form = Some (Number 1) }

abbrev site : System
site = after (first_system (codes "A")) (first_asks
    (Fill (listing_file (codes "F")) 1
    ∷ Fill (file (codes "F") (codes "COM")) 1
    ∷ DefineForm (record { name = codes "LETTER"; number = 1; stock = codes "LETTER"; shape = first_form.shape })
    ∷ DefineCharacteristic (record { name = codes "DUPLEX"; number = 7 })
    ∷ print_queue (codes "LP") true lp_change
    ∷ generic_queue (codes "GQ") (codes "LP" ∷ [])
    ∷ generic_queue (codes "GP") (codes "LP" ∷ [])
    ∷ Submit lp_job
    ∷ Submit lp_job
    ∷ Submit (a_batch_job (codes "SYS$BATCH") (codes "F"))
    ∷ []))

abbrev stopped : System
stopped = after site (first_asks (StopQueue (codes "LP") stop.Reset ∷ []))

-- why a request is refused
abbrev why : System → Request → Option Refusal
why s request = first_refusal_of s (codes "A") request

-- changes that break several rules
abbrev no_limit : QueueChange
no_limit = record no_change { limit = Some 0 }

abbrev unknown_form : QueueChange
unknown_form = record no_change { form = Some (Number 9) }

abbrev new_queue : List ℕ → QueueKind → QueueChange → NewQueue
new_queue name kind change = record { name = name; kind = kind; node = None; device = None; targets = []; change = change; start = false }

abbrev no_entry_change : EntryChange
no_entry_change = record { release = false; hold = false; after = None; priority = None; name = None; characteristics = None; form = None; queue = None; restart = None; retain = None }

-- ---- spent numbers of runs come before all other refusals, but where the queue manager asks for itself

abbrev spent : System
spent = record site { next_run = 4611686018427387904 }

abbrev refused_anyway : List Request
refused_anyway =
    Append (listing_file (codes "F")) []
    ∷ Fill (listing_file (codes "F")) 1
    ∷ Drop (listing_file (codes "F"))
    ∷ DefineForm first_form
    ∷ DeleteForm (codes "X")
    ∷ DefineCharacteristic (record { name = codes "DUPLEX"; number = 7 })
    ∷ DeleteCharacteristic (codes "X")
    ∷ InitializeQueue (new_queue (codes "LP") queue.Batch no_change)
    ∷ SetQueue (codes "X") no_change
    ∷ StartQueue (codes "X") no_change
    ∷ StopQueue (codes "X") stop.Pause
    ∷ AbortJob (codes "X") None false
    ∷ DeleteQueue (codes "X")
    ∷ Merge (codes "X") (codes "X")
    ∷ Submit (a_print_job (codes "X") (codes "F"))
    ∷ SetEntry 9 no_entry_change
    ∷ DeleteEntry 9
    ∷ Mark 9 []
    ∷ Done 9 1
    ∷ []

pub spent_numbers_come_first : map (why spent) refused_anyway ≡ replicate 19 (Some refused.NumbersSpent)
spent_numbers_come_first = refl

pub spent_numbers_stop_the_clock : map (why spent) (Tick ∷ NodeUp ∷ []) ≡ Some refused.NumbersSpent ∷ Some refused.NumbersSpent ∷ []
spent_numbers_stop_the_clock = refl

pub queue_manager_asks_for_itself : map (why spent) (NodeLost [] ∷ Took 1 [] [] [] ∷ []) ≡ None ∷ None ∷ []
queue_manager_asks_for_itself = refl

-- ---- files

abbrev full : System
full = record site { files = replicate 4096 (let f : File = record { name = listing_file (codes "X"); bytes = [] } in f) }

pub named_before_full : why full (Append (listing_file (codes "F")) []) ≡ Some (refused.Referenced (holder.Entry 1))
named_before_full = refl

pub named_before_filled : why full (Fill (listing_file (codes "F")) 1) ≡ Some (refused.Referenced (holder.Entry 1))
named_before_filled = refl

pub missing_before_named : why (record site { files = [] }) (Drop (listing_file (codes "F"))) ≡ Some refused.NoSuchFile
missing_before_named = refl

-- ---- forms and characteristics

pub bad_form_before_taken : why site (DefineForm (record { name = codes "LETTER"; number = 1000; stock = codes "X"; shape = first_form.shape })) ≡ Some refused.BadValue
bad_form_before_taken = refl

pub missing_form_before_default : why (record site { forms = [] }) (DeleteForm (codes "DEFAULT")) ≡ Some (refused.NoSuchForm (Name (codes "DEFAULT")))
missing_form_before_default = refl

pub default_before_mounted : why (after site (first_asks (print_queue (codes "LQ") false no_change ∷ []))) (DeleteForm (codes "DEFAULT")) ≡ Some (refused.Referenced holder.Always)
default_before_mounted = refl

pub mounted_before_wanted : why site (DeleteForm (codes "LETTER")) ≡ Some (refused.Referenced (holder.Queue (codes "LP")))
mounted_before_wanted = refl

-- of two queues the first by name, and of two entries the one of the least number
pub first_queue_on_a_form : why (after site (first_asks (print_queue (codes "KP") false lp_change ∷ []))) (DeleteForm (codes "LETTER")) ≡ Some (refused.Referenced (holder.Queue (codes "KP")))
first_queue_on_a_form = refl

pub first_entry_on_a_form : why (after site (first_asks (SetQueue (codes "LP") (record no_change { form = Some (Name (codes "DEFAULT")) }) ∷ []))) (DeleteForm (codes "LETTER")) ≡ Some (refused.Referenced (holder.Entry 1))
first_entry_on_a_form = refl

pub bad_characteristic_before_taken : why site (DefineCharacteristic (record { name = codes "DUPLEX"; number = 128 })) ≡ Some refused.BadValue
bad_characteristic_before_taken = refl

pub queue_before_entry : why site (DeleteCharacteristic (codes "DUPLEX")) ≡ Some (refused.Referenced (holder.Queue (codes "LP")))
queue_before_entry = refl

pub first_entry_of_a_characteristic : why (after site (first_asks (SetQueue (codes "LP") (record no_change { characteristics = Some [] }) ∷ []))) (DeleteCharacteristic (codes "DUPLEX")) ≡ Some (refused.Referenced (holder.Entry 1))
first_entry_of_a_characteristic = refl

-- ---- INITIALIZE/QUEUE

pub no_limit_before_other_kind : why site (InitializeQueue (new_queue (codes "LP") queue.Batch no_limit)) ≡ Some refused.BadValue
no_limit_before_other_kind = refl

pub other_kind_before_started : why site (InitializeQueue (new_queue (codes "LP") queue.Batch no_change)) ≡ Some refused.DuplicateQueue
other_kind_before_started = refl

pub started_before_other_node : why site (InitializeQueue (record (new_queue (codes "LP") queue.Print no_change) { node = Some (codes "Z") })) ≡ Some (refused.QueueNotStopped Started)
started_before_other_node = refl

pub too_many_queues_before_other_node : why (record site { queues = replicate 256 (first_queue (codes "A")) }) (InitializeQueue (record (new_queue (codes "Q") queue.Print no_change) { node = Some (codes "Z") })) ≡ Some refused.QueuesFull
too_many_queues_before_other_node = refl

pub other_node_before_limit_of_print : why site (InitializeQueue (record (new_queue (codes "Q") queue.Print (record no_change { limit = Some 2 })) { node = Some (codes "Z") })) ≡ Some (refused.NoSuchNode (codes "Z"))
other_node_before_limit_of_print = refl

pub target_before_limit_of_generic : why site (InitializeQueue (record (new_queue (codes "Q") queue.GenericPrint (record no_change { limit = Some 2 })) { targets = codes "LP" ∷ codes "X" ∷ codes "GP" ∷ [] })) ≡ Some (refused.GenericTarget (codes "X"))
target_before_limit_of_generic = refl

pub limit_of_print_before_unknown_form : why site (InitializeQueue (new_queue (codes "Q") queue.Print (record unknown_form { limit = Some 2 }))) ≡ Some refused.WrongKind
limit_of_print_before_unknown_form = refl

pub unknown_form_before_characteristic : why site (InitializeQueue (new_queue (codes "Q") queue.Print (record unknown_form { characteristics = Some (Number 8 ∷ []) }))) ≡ Some (refused.NoSuchForm (Number 9))
unknown_form_before_characteristic = refl

-- ---- SET QUEUE and START/QUEUE

abbrev both : List ℕ → QueueChange → List (Option Refusal)
both name change = map (why site) (SetQueue name change ∷ StartQueue name change ∷ [])

pub missing_queue_before_no_limit : both (codes "X") no_limit ≡ replicate 2 (Some (refused.NoSuchQueue (codes "X")))
missing_queue_before_no_limit = refl

pub no_limit_before_limit_of_print : both (codes "LP") no_limit ≡ replicate 2 (Some refused.BadValue)
no_limit_before_limit_of_print = refl

pub limit_of_print_before_form : both (codes "LP") (record unknown_form { limit = Some 2 }) ≡ replicate 2 (Some refused.WrongKind)
limit_of_print_before_form = refl

pub form_before_characteristic : both (codes "LP") (record unknown_form { characteristics = Some (Number 8 ∷ []) }) ≡ replicate 2 (Some (refused.NoSuchForm (Number 9)))
form_before_characteristic = refl

-- of two characteristics that aren't defined the first is told
pub first_characteristic : both (codes "LP") (record no_change { characteristics = Some (Number 7 ∷ Number 9 ∷ Number 8 ∷ []) }) ≡ replicate 2 (Some (refused.NoSuchCharacteristic (Number 9)))
first_characteristic = refl

-- ---- STOP/QUEUE/ABORT, DELETE/QUEUE and ASSIGN/MERGE

pub missing_queue_before_no_run : why site (AbortJob (codes "X") None true) ≡ Some (refused.NoSuchQueue (codes "X"))
missing_queue_before_no_run = refl

pub generic_before_no_run : why site (AbortJob (codes "GP") None true) ≡ Some refused.WrongKind
generic_before_no_run = refl

pub started_before_named : why site (DeleteQueue (codes "LP")) ≡ Some (refused.QueueNotStopped Started)
started_before_named = refl

-- a queue that two generic queues name, and in which a job has its run
pub named_before_run : why stopped (DeleteQueue (codes "LP")) ≡ Some (refused.Referenced (holder.Queue (codes "GP")))
named_before_run = refl

pub target_before_source : why site (Merge (codes "X") (codes "Y")) ≡ Some (refused.NoSuchQueue (codes "X"))
target_before_source = refl

-- ---- SUBMIT and PRINT

pub missing_queue_before_file : why site (Submit (a_print_job (codes "X") (codes "G"))) ≡ Some (refused.NoSuchQueue (codes "X"))
missing_queue_before_file = refl

pub other_kind_before_file : why site (Submit (a_print_job (codes "SYS$BATCH") (codes "G"))) ≡ Some refused.WrongKind
other_kind_before_file = refl

pub file_before_no_copy : why site (Submit (record (a_print_job (codes "LP") (codes "G")) { copies = 0 })) ≡ Some refused.NoSuchFile
file_before_no_copy = refl

pub no_copy_before_form : why site (Submit (record (a_print_job (codes "LP") (codes "F")) { copies = 0; form = Some (Number 9) })) ≡ Some refused.BadValue
no_copy_before_form = refl

pub form_of_job_before_characteristic : why site (Submit (record (a_print_job (codes "LP") (codes "F")) { form = Some (Number 9); characteristics = Number 8 ∷ [] })) ≡ Some (refused.NoSuchForm (Number 9))
form_of_job_before_characteristic = refl

abbrev crowded : System
crowded = record site { entries = replicate 65536 (entry_of site 0 lp_job) }

pub characteristic_before_entries : why crowded (Submit (record (a_print_job (codes "LP") (codes "F")) { characteristics = Number 8 ∷ [] })) ≡ Some (refused.NoSuchCharacteristic (Number 8))
characteristic_before_entries = refl

pub entries_before_numbers : why (record crowded { next_entry = 4294967295 }) (Submit (a_print_job (codes "LP") (codes "F"))) ≡ Some refused.EntriesFull
entries_before_numbers = refl

-- ---- SET ENTRY: entry 1 runs, 2 is pending and 3 is a batch job

pub missing_entry_before_queue : why site (SetEntry 9 (record no_entry_change { queue = Some (codes "X") })) ≡ Some (refused.NoSuchEntry 9)
missing_entry_before_queue = refl

pub busy_before_queue : why site (SetEntry 1 (record no_entry_change { queue = Some (codes "X") })) ≡ Some (refused.EntryBusy (state.Running (codes "LP") (codes "A") 1))
busy_before_queue = refl

pub not_held_before_queue : why site (SetEntry 2 (record no_entry_change { release = true; queue = Some (codes "X") })) ≡ Some refused.NotHeld
not_held_before_queue = refl

pub queue_before_form_of_batch : why site (SetEntry 3 (record no_entry_change { queue = Some (codes "X"); form = Some (Number 1) })) ≡ Some (refused.NoSuchQueue (codes "X"))
queue_before_form_of_batch = refl

pub form_of_batch_before_unknown : why site (SetEntry 3 (record no_entry_change { form = Some (Number 9) })) ≡ Some refused.WrongKind
form_of_batch_before_unknown = refl

pub other_kind_before_form : why site (SetEntry 2 (record no_entry_change { queue = Some (codes "SYS$BATCH"); form = Some (Number 9) })) ≡ Some refused.WrongKind
other_kind_before_form = refl

pub new_form_before_characteristic : why site (SetEntry 2 (record no_entry_change { form = Some (Number 9); characteristics = Some (Number 8 ∷ []) })) ≡ Some (refused.NoSuchForm (Number 9))
new_form_before_characteristic = refl
