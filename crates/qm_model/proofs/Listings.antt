-- What is listed, and in which order.
use Rattle.std.proofs.Common.{◌≡◌, ℕ, Bool, true, false, List, [], ◌∷◌, ◌++◌, refl, map, Option, None, Some, codes, Result, Ok, Err}
use Rattle.qm_model.specs.Common.{After, Listing, Query, Row, QueueChange, Refusal, NameOrNumber, Name, Request, System, first_system, view, duties, Duty}
use Rattle.qm_kinds.specs.declared.query.After.TheVariants as after
use Rattle.qm_kinds.specs.declared.query.Listing.TheVariants as listing
use Rattle.qm_kinds.specs.declared.query.Row.TheVariants as row
use Rattle.qm_kinds.specs.declared.queue.QueueKind.TheVariants as queue
use Rattle.qm_kinds.specs.declared.refusal.Refusal.TheVariants as refused
use Rattle.qm_kinds.specs.declared.request.Request.TheVariants.{Append, Fill, DefineForm, DefineCharacteristic, InitializeQueue, SetQueue, DeleteQueue, Submit, Mark, Done, NodeLost}
use Rattle.qm_model.proofs.Site.{Ask, after as system_after_all, starts, first_asks, file, listing_file, no_change, print_queue, a_print_job, a_batch_job}

-- what names a row
abbrev label : Row → List ℕ
label (row.Queue q) = q.name
label (row.Entry e) = e.name
label (row.Form f) = f.name
label (row.Characteristic c) = c.name
label (row.Manager node epoch may) = node

abbrev pub labels : Result (List Row) Refusal → Result (List (List ℕ)) Refusal
labels (Ok rows) = Ok (map label rows)
labels (Err refusal) = Err refusal

-- all rows of a listing whose names match, or the one behind a row
abbrev pub asking : Listing → List ℕ → Bool → Option After → Query
asking what pattern single last = record { listing = what; pattern = pattern; number = None; user = None; kinds = record { batch = true; print = true; generic_batch = true; generic_print = true }; queue = None; after = last; single = single }

abbrev four_queues : List Request
four_queues = print_queue (codes "B") false no_change ∷ print_queue (codes "AB2") false no_change ∷ print_queue (codes "A1") false no_change ∷ []

abbrev with_four_queues : System
with_four_queues = system_after_all (first_system (codes "A")) (first_asks four_queues)

abbrev next : System → List ℕ → Option After → Result (List (List ℕ)) Refusal
next s pattern last = labels (view s None (asking listing.Queues pattern true last))

pub queues_by_name : labels (view with_four_queues None (asking listing.Queues (codes "*") false None)) ≡ Ok (codes "A1" ∷ codes "AB2" ∷ codes "B" ∷ codes "SYS$BATCH" ∷ [])
queues_by_name = refl

pub first_queue : next with_four_queues (codes "*") None ≡ Ok (codes "A1" ∷ [])
first_queue = refl

pub queue_behind : next with_four_queues (codes "*") (Some (after.Name (codes "AB2"))) ≡ Ok (codes "B" ∷ [])
queue_behind = refl

pub last_queue : next with_four_queues (codes "*") (Some (after.Name (codes "SYS$BATCH"))) ≡ Err (refused.NoMore listing.Queues)
last_queue = refl

pub queues_that_match : labels (view with_four_queues None (asking listing.Queues (codes "A%*") false None)) ≡ Ok (codes "A1" ∷ codes "AB2" ∷ [])
queues_that_match = refl

pub queue_of_one_byte : next with_four_queues (codes "%") None ≡ Ok (codes "B" ∷ [])
queue_of_one_byte = refl

pub no_queue_matches : next with_four_queues (codes "Q*") None ≡ Err (refused.NoMore listing.Queues)
no_queue_matches = refl

-- a queue that goes while queues are listed isn't listed
pub deleted_queue_is_passed : next (system_after_all with_four_queues (first_asks (DeleteQueue (codes "AB2") ∷ []))) (codes "*") (Some (after.Name (codes "A1"))) ≡ Ok (codes "B" ∷ [])
deleted_queue_is_passed = refl

pub jobs_need_a_queue : view with_four_queues None (asking listing.Jobs (codes "*") true None) ≡ Err refused.NoContext
jobs_need_a_queue = refl

-- A small site of two nodes: forms on white and yellow paper, a print queue on each node, and a generic queue.
abbrev pub site : System
site = record (first_system (codes "PLUTO")) {
  nodes = record { name = codes "PLUTO"; up = true } ∷ record { name = codes "MARS"; up = true } ∷ [];
  may = codes "PLUTO" ∷ codes "MARS" ∷ [];
}

abbrev mounted : List ℕ → Option (List NameOrNumber) → QueueChange
mounted form characteristics = record { limit = None; characteristics = characteristics; form = Some (Name form); blocks = None; by_size = None; retain = None }

abbrev report_job : List ℕ → List ℕ → List NameOrNumber → ℕ → Request
report_job user form characteristics copies =
    Submit (record (a_print_job (codes "SYS$PRINT") (codes "REPORT")) { user = user; characteristics = characteristics; form = Some (Name form); copies = copies })

abbrev pub day : List Ask
day = first_asks
    (DefineForm (record { name = codes "LETTER"; number = 1; stock = codes "WHITE"; shape = record { length = 60; width = 132; top = 2; bottom = 2; left = 0; right = 0; wrap = false } })
    ∷ DefineForm (record { name = codes "INVOICE"; number = 2; stock = codes "YELLOW"; shape = record { length = 66; width = 80; top = 0; bottom = 6; left = 0; right = 0; wrap = true } })
    ∷ DefineCharacteristic (record { name = codes "DUPLEX"; number = 7 })
    ∷ InitializeQueue (record { name = codes "SYS$BATCH"; kind = queue.Batch; node = Some (codes "PLUTO"); device = None; targets = []; change = record { limit = Some 2; characteristics = None; form = None; blocks = None; by_size = None; retain = None }; start = true })
    ∷ InitializeQueue (record { name = codes "PLUTO_LP"; kind = queue.Print; node = Some (codes "PLUTO"); device = Some (codes "LPA0"); targets = []; change = mounted (codes "LETTER") (Some (Name (codes "DUPLEX") ∷ [])); start = true })
    ∷ InitializeQueue (record { name = codes "MARS_LP"; kind = queue.Print; node = Some (codes "MARS"); device = Some (codes "LPA0"); targets = []; change = mounted (codes "LETTER") None; start = true })
    ∷ InitializeQueue (record { name = codes "SYS$PRINT"; kind = queue.GenericPrint; node = None; device = None; targets = codes "PLUTO_LP" ∷ codes "MARS_LP" ∷ []; change = no_change; start = true })
    ∷ Fill (listing_file (codes "REPORT")) 100
    ∷ Append (file (codes "NIGHT") (codes "COM")) (codes "$ WRITE SYS$OUTPUT " ++ 34 ∷ codes "done" ++ 34 ∷ 10 ∷ [])
    ∷ report_job (codes "SMITH") (codes "LETTER") (Name (codes "DUPLEX") ∷ []) 1
    ∷ report_job (codes "JONES") (codes "LETTER") [] 2
    ∷ report_job (codes "JONES") (codes "INVOICE") [] 1
    ∷ Submit (record (a_batch_job (codes "SYS$BATCH") (codes "NIGHT")) { user = codes "SMITH"; restart = true })
    ∷ []) ++ (let lost : Ask = record { now = 0; node = 1; request = NodeLost (codes "MARS" ∷ []) } in lost)
    ∷ first_asks (SetQueue (codes "MARS_LP") (mounted (codes "INVOICE") None) ∷ [])

pub day_starts : starts site day ≡ 1 ∷ 2 ∷ 4 ∷ []
day_starts = refl

-- below each queue stand its entries: the first and the last run, and the others wait in the generic queue
pub day_is_listed : labels (view (system_after_all site day) None (asking listing.Queues (codes "*") false None))
    ≡ Ok (codes "MARS_LP" ∷ codes "PLUTO_LP" ∷ codes "REPORT" ∷ codes "SYS$BATCH" ∷ codes "NIGHT" ∷ codes "SYS$PRINT" ∷ codes "REPORT" ∷ codes "REPORT" ∷ [])
day_is_listed = refl

pub day_ends : starts (system_after_all site day) (first_asks (Mark 1 (codes "1") ∷ Done 3 1 ∷ Done 1 1 ∷ [])) ≡ 2 ∷ []
day_ends = refl

-- what PLUTO has to do, of which it knows the first run
pub day_duties : map (λ (d : Duty). d.run) (duties (system_after_all site day) (codes "PLUTO") (1 ∷ [])) ≡ 1 ∷ 3 ∷ []
day_duties = refl
