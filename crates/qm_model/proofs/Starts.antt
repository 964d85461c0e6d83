-- Which jobs start, and in which order.
use Rattle.std.proofs.Common.{◌≡◌, ℕ, ◌-◌, true, false, List, [], ◌∷◌, ◌++◌, refl, None, Some, codes, Ok}
use Rattle.qm_kinds.specs.declared.entry.EntryState.TheVariants as state
use Rattle.qm_model.specs.Common.{Default, QueueChange, Started, NameOrNumber, Name, Number, Request, first_system, first_form}
use Rattle.qm_kinds.specs.declared.reply.Act.TheVariants as act
use Rattle.qm_kinds.specs.declared.request.Request.TheVariants.{Append, Fill, SetQueue, StartQueue, DefineForm, DefineCharacteristic, Submit, Done, Tick}
use Rattle.qm_model.proofs.Site.{Ask, answers, after, starts, states, first_asks, file, listing_file, no_change, print_queue, generic_queue, print_job, batch_job, a_print_job}

-- the first site's queue is stopped, so its job waits
pub stopped_queue_keeps_its_job : answers (first_system (codes "A")) (first_asks
    (Append (file (codes "JOB") (codes "COM")) (codes "$ EXIT 1" ++ 10 ∷ [])
    ∷ batch_job (codes "SYS$BATCH") (codes "JOB") None Default
    ∷ []))
    ≡ (Ok (record { act = act.Filed (file (codes "JOB") (codes "COM")) 9; started = [] })
    ∷ Ok (record { act = act.Submitted (codes "JOB") (codes "SYS$BATCH") 1 state.Pending; started = [] })
    ∷ [])
stopped_queue_keeps_its_job = refl

-- jobs of 9, 2 and 2 blocks are put into a stopped queue, which is started; each of its runs is reported as completed
abbrev three_jobs : QueueChange → ℕ → List Ask
three_jobs change priority = first_asks
    (Fill (listing_file (codes "X")) 72
    ∷ Fill (listing_file (codes "Y")) 16
    ∷ print_queue (codes "LP") false change
    ∷ Submit (record (a_print_job (codes "LP") (codes "X")) { priority = priority })
    ∷ print_job (codes "LP") (codes "Y")
    ∷ print_job (codes "LP") (codes "Y")
    ∷ StartQueue (codes "LP") no_change
    ∷ Done 1 1
    ∷ Done 2 1
    ∷ Done 3 1
    ∷ [])

pub smaller_jobs_first : starts (first_system (codes "A")) (three_jobs no_change 100) ≡ 2 ∷ 3 ∷ 1 ∷ []
smaller_jobs_first = refl

pub no_size_in_order_of_submission : starts (first_system (codes "A")) (three_jobs (record { limit = None; characteristics = None; form = None; blocks = None; by_size = Some false; retain = None }) 100) ≡ 1 ∷ 2 ∷ 3 ∷ []
no_size_in_order_of_submission = refl

pub greater_priority_first : starts (first_system (codes "A")) (three_jobs no_change 255) ≡ 1 ∷ 2 ∷ 3 ∷ []
greater_priority_first = refl

abbrev characteristics_change : List NameOrNumber → QueueChange
characteristics_change wanted = record { limit = None; characteristics = Some wanted; form = None; blocks = None; by_size = None; retain = None }

-- a job waits until its queue has each characteristic that it asks for
pub job_waits_for_characteristics : answers (first_system (codes "A")) (first_asks
    (Fill (listing_file (codes "Y")) 16
    ∷ DefineCharacteristic (record { name = codes "DUPLEX"; number = 3 })
    ∷ DefineCharacteristic (record { name = codes "COLOUR"; number = 127 })
    ∷ print_queue (codes "LP") true (characteristics_change (Name (codes "DUPLEX") ∷ []))
    ∷ Submit (record (a_print_job (codes "LP") (codes "Y")) { characteristics = Number 3 ∷ Number 127 ∷ [] })
    ∷ SetQueue (codes "LP") (characteristics_change (Number 3 ∷ Number 127 ∷ []))
    ∷ []))
    ≡ (Ok (record { act = act.Filed (listing_file (codes "Y")) 1024; started = [] })
    ∷ Ok (record { act = act.CharacteristicDefined (codes "DUPLEX"); started = [] })
    ∷ Ok (record { act = act.CharacteristicDefined (codes "COLOUR"); started = [] })
    ∷ Ok (record { act = act.QueueIs (codes "LP") Started; started = [] })
    ∷ Ok (record { act = act.Submitted (codes "Y") (codes "LP") 1 state.Pending; started = [] })
    ∷ Ok (record { act = act.QueueIs (codes "LP") Started; started = 1 ∷ [] })
    ∷ [])
job_waits_for_characteristics = refl

abbrev job_on_form : List ℕ → Request
job_on_form form = Submit (record (a_print_job (codes "LP") (codes "Y")) { form = Some (Name form) })

-- a job on another form of the mounted form's stock starts, and one on a form of another stock never does
pub stock_decides : starts (first_system (codes "A")) (first_asks
    (Fill (listing_file (codes "Y")) 16
    ∷ DefineForm (record { name = codes "WIDE"; number = 1; stock = codes "PAPER"; shape = record { length = 66; width = 200; top = 0; bottom = 6; left = 0; right = 0; wrap = false } })
    ∷ DefineForm (record { name = codes "NARROW"; number = 2; stock = codes "PAPER"; shape = first_form.shape })
    ∷ DefineForm (record { name = codes "BLUE"; number = 3; stock = codes "BLUE"; shape = first_form.shape })
    ∷ print_queue (codes "LP") true (record { limit = None; characteristics = None; form = Some (Name (codes "WIDE")); blocks = None; by_size = None; retain = None })
    ∷ job_on_form (codes "BLUE")
    ∷ job_on_form (codes "NARROW")
    ∷ Done 1 1
    ∷ []))
    ≡ 2 ∷ []
stock_decides = refl

-- of jobs of 1, 2, 9 and 10 blocks a queue with the limits 2 and 9 starts those of 2 and 9
pub sizes_within_limits : starts (first_system (codes "A")) (first_asks
    (Fill (listing_file (codes "ONE")) 8
    ∷ Fill (listing_file (codes "TWO")) 16
    ∷ Fill (listing_file (codes "NINE")) 72
    ∷ Fill (listing_file (codes "TEN")) 80
    ∷ print_queue (codes "LP") true (record { limit = None; characteristics = None; form = None; blocks = Some (2, 9); by_size = None; retain = None })
    ∷ print_job (codes "LP") (codes "ONE")
    ∷ print_job (codes "LP") (codes "TEN")
    ∷ print_job (codes "LP") (codes "NINE")
    ∷ print_job (codes "LP") (codes "TWO")
    ∷ Done 1 1
    ∷ Done 2 1
    ∷ []))
    ≡ 3 ∷ 4 ∷ []
sizes_within_limits = refl

-- a generic queue passes its jobs on to those of its targets that are started
pub generic_queue_passes_on : states (after (first_system (codes "A")) (first_asks
    (Fill (listing_file (codes "Y")) 1
    ∷ print_queue (codes "LPA") false no_change
    ∷ print_queue (codes "LPB") true no_change
    ∷ generic_queue (codes "GP") (codes "LPA" ∷ codes "LPB" ∷ [])
    ∷ print_job (codes "GP") (codes "Y")
    ∷ StartQueue (codes "LPA") no_change
    ∷ print_job (codes "GP") (codes "Y")
    ∷ [])))
    ≡ state.Running (codes "LPB") (codes "A") 1 ∷ state.Running (codes "LPA") (codes "A") 2 ∷ []
generic_queue_passes_on = refl

-- 1-JAN-2030 12:00
abbrev noon : ℕ
noon = 540021600000

abbrev asked_at : ℕ → Request → Ask
asked_at now request = record { now = now; node = 0; request = request }

-- a job that waits for noon starts at noon, and no earlier; a job that is submitted then doesn't wait
pub job_waits_for_its_moment : answers (first_system (codes "A"))
    (asked_at (noon - 360000) (Append (file (codes "J") (codes "COM")) (codes "$ EXIT 1" ++ 10 ∷ []))
    ∷ asked_at (noon - 360000) (StartQueue (codes "SYS$BATCH") no_change)
    ∷ asked_at (noon - 360000) (batch_job (codes "SYS$BATCH") (codes "J") (Some noon) Default)
    ∷ asked_at (noon - 1) Tick
    ∷ asked_at noon Tick
    ∷ asked_at noon (batch_job (codes "SYS$BATCH") (codes "J") (Some noon) Default)
    ∷ [])
    ≡ (Ok (record { act = act.Filed (file (codes "J") (codes "COM")) 9; started = [] })
    ∷ Ok (record { act = act.QueueIs (codes "SYS$BATCH") Started; started = [] })
    ∷ Ok (record { act = act.Submitted (codes "J") (codes "SYS$BATCH") 1 (state.Timed noon); started = [] })
    ∷ Ok (record { act = act.Ticked; started = [] })
    ∷ Ok (record { act = act.Ticked; started = 1 ∷ [] })
    ∷ Ok (record { act = act.Submitted (codes "J") (codes "SYS$BATCH") 2 state.Pending; started = [] })
    ∷ [])
job_waits_for_its_moment = refl
