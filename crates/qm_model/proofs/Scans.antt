-- Listings that go on row by row: each gives the least row behind the last one, and then no more.
use Rattle.std.proofs.Common.{◌≡◌, ℕ, true, false, List, [], ◌∷◌, refl, Option, None, Some, codes, Result, Ok, Err}
use Rattle.qm_model.specs.Common.{After, Listing, Row, Refusal, Request, System, first_system, view, ManagerRole}
use Rattle.qm_kinds.specs.declared.query.After.TheVariants as after
use Rattle.qm_kinds.specs.declared.query.Listing.TheVariants as listing
use Rattle.qm_kinds.specs.declared.query.Row.TheVariants as row
use Rattle.qm_kinds.specs.declared.refusal.Refusal.TheVariants as refused
use Rattle.qm_kinds.specs.declared.request.Request.TheVariants.{Fill, DeleteForm, DeleteQueue, DeleteEntry}
use Rattle.qm_model.proofs.Site.{after as system_after_all, first_asks, listing_file, no_change, print_queue, generic_queue, print_job}
use Rattle.qm_model.proofs.Listings.{asking, site}
use Rattle.qm_model.proofs.Queries.{with_stationery, default_form, letter_form, invoice_form}

-- the next row of a listing
abbrev next : System → Listing → List ℕ → Option After → Result (List Row) Refusal
next s what pattern last = view s None (asking what pattern true last)

-- a system after the first node's requests
abbrev changed : System → List Request → System
changed s requests = system_after_all s (first_asks requests)

-- forms by number: 0, 3 and 20, and no more
pub first_form_is_DEFAULT : next with_stationery listing.Forms (codes "*") None ≡ Ok (row.Form default_form ∷ [])
first_form_is_DEFAULT = refl

pub form_behind_DEFAULT : next with_stationery listing.Forms (codes "*") (Some (after.Number 0)) ≡ Ok (row.Form letter_form ∷ [])
form_behind_DEFAULT = refl

pub form_behind_LETTER : next with_stationery listing.Forms (codes "*") (Some (after.Number 3)) ≡ Ok (row.Form invoice_form ∷ [])
form_behind_LETTER = refl

pub no_more_forms : next with_stationery listing.Forms (codes "*") (Some (after.Number 20)) ≡ Err (refused.NoMore listing.Forms)
no_more_forms = refl

-- a form that goes while forms are listed isn't listed, and the listing goes on behind a form that has gone
pub deleted_form_is_passed : next (changed with_stationery (DeleteForm (codes "LETTER") ∷ [])) listing.Forms (codes "*") (Some (after.Number 0)) ≡ Ok (row.Form invoice_form ∷ [])
deleted_form_is_passed = refl

pub goes_on_behind_a_deleted_form : next (changed with_stationery (DeleteForm (codes "LETTER") ∷ [])) listing.Forms (codes "*") (Some (after.Number 3)) ≡ Ok (row.Form invoice_form ∷ [])
goes_on_behind_a_deleted_form = refl

-- forms whose names don't match are passed
pub next_form_that_matches : next with_stationery listing.Forms (codes "*I*") (Some (after.Number 0)) ≡ Ok (row.Form invoice_form ∷ [])
next_form_that_matches = refl

-- characteristics by number: 7, 30 and 127, and no more
pub first_characteristic : next with_stationery listing.Characteristics (codes "*") None ≡ Ok (row.Characteristic (record { name = codes "DUPLEX"; number = 7 }) ∷ [])
first_characteristic = refl

pub characteristic_behind : next with_stationery listing.Characteristics (codes "*") (Some (after.Number 7)) ≡ Ok (row.Characteristic (record { name = codes "STAPLE"; number = 30 }) ∷ [])
characteristic_behind = refl

pub last_characteristic : next with_stationery listing.Characteristics (codes "*") (Some (after.Number 30)) ≡ Ok (row.Characteristic (record { name = codes "COLOUR"; number = 127 }) ∷ [])
last_characteristic = refl

pub no_more_characteristics : next with_stationery listing.Characteristics (codes "*") (Some (after.Number 127)) ≡ Err (refused.NoMore listing.Characteristics)
no_more_characteristics = refl

-- the numbers of the entries that are listed
abbrev numbers_of : List Row → List ℕ
numbers_of [] = []
numbers_of (row.Entry e ∷ rows) = e.number ∷ numbers_of rows
numbers_of (_ ∷ rows) = numbers_of rows

abbrev numbers : Result (List Row) Refusal → Result (List ℕ) Refusal
numbers (Ok rows) = Ok (numbers_of rows)
numbers (Err refusal) = Err refusal

-- Jobs 1 and 3 wait in the stopped queue LP. Of those for the generic queue SYS$PRINT job 2 runs in LQ, and job 4 waits.
abbrev with_jobs : System
with_jobs = changed (first_system (codes "A"))
    (Fill (listing_file (codes "F")) 1
    ∷ Fill (listing_file (codes "G")) 1
    ∷ print_queue (codes "LP") false no_change
    ∷ print_queue (codes "LQ") true no_change
    ∷ generic_queue (codes "SYS$PRINT") (codes "LQ" ∷ [])
    ∷ print_job (codes "LP") (codes "F")
    ∷ print_job (codes "SYS$PRINT") (codes "G")
    ∷ print_job (codes "LP") (codes "G")
    ∷ print_job (codes "SYS$PRINT") (codes "F")
    ∷ [])

abbrev next_entry : System → List ℕ → Option After → Result (List ℕ) Refusal
next_entry s pattern last = numbers (next s listing.Entries pattern last)

-- all users' entries by number, and no more behind the last one
pub first_entry : next_entry with_jobs (codes "*") None ≡ Ok (1 ∷ [])
first_entry = refl

pub entry_behind : next_entry with_jobs (codes "*") (Some (after.Number 1)) ≡ Ok (2 ∷ [])
entry_behind = refl

pub no_more_entries : next_entry with_jobs (codes "*") (Some (after.Number 4)) ≡ Err (refused.NoMore listing.Entries)
no_more_entries = refl

-- entries of jobs whose names don't match are passed, and so is an entry that goes while entries are listed
pub next_entry_that_matches : next_entry with_jobs (codes "F") (Some (after.Number 1)) ≡ Ok (4 ∷ [])
next_entry_that_matches = refl

pub no_more_entries_that_match : next_entry with_jobs (codes "G") (Some (after.Number 3)) ≡ Err (refused.NoMore listing.Entries)
no_more_entries_that_match = refl

pub deleted_entry_is_passed : next_entry (changed with_jobs (DeleteEntry 3 ∷ [])) (codes "*") (Some (after.Number 2)) ≡ Ok (4 ∷ [])
deleted_entry_is_passed = refl

-- the next of the jobs that stand in the queue that was found
abbrev next_job : System → List ℕ → Option After → Result (List ℕ) Refusal
next_job s found last = numbers (view s None (record (asking listing.Jobs (codes "*") true last) { queue = Some found }))

-- the jobs that stand in LP by number, and no more
pub first_job : next_job with_jobs (codes "LP") None ≡ Ok (1 ∷ [])
first_job = refl

pub job_behind : next_job with_jobs (codes "LP") (Some (after.Number 1)) ≡ Ok (3 ∷ [])
job_behind = refl

pub no_more_jobs : next_job with_jobs (codes "LP") (Some (after.Number 3)) ≡ Err (refused.NoMore listing.Jobs)
no_more_jobs = refl

-- a job stands in the queue where it runs, and else in the queue where it was submitted
pub job_stands_where_it_runs : next_job with_jobs (codes "LQ") None ≡ Ok (2 ∷ [])
job_stands_where_it_runs = refl

pub job_stands_where_it_waits : next_job with_jobs (codes "SYS$PRINT") None ≡ Ok (4 ∷ [])
job_stands_where_it_waits = refl

-- of a queue that is gone there are no more jobs
pub queue_is_gone : next_job (changed with_jobs (DeleteQueue (codes "LP") ∷ [])) (codes "LP") None ≡ Err (refused.NoMore listing.Jobs)
queue_is_gone = refl

-- without a queue that was found there are none to list, whatever stands in the queues
pub no_queue_was_found : next with_jobs listing.Jobs (codes "*") None ≡ Err refused.NoContext
no_queue_was_found = refl

-- the manager's row is there at each call, and ending all listings never shows a row
abbrev manager : Option ManagerRole
manager = Some (record { node = codes "PLUTO"; epoch = 7 })

pub manager_is_always_there : view site manager (asking listing.Manager (codes "*") true (Some (after.Name (codes "PLUTO")))) ≡ Ok (row.Manager (codes "PLUTO") 7 (codes "PLUTO" ∷ codes "MARS" ∷ []) ∷ [])
manager_is_always_there = refl

pub cancel_shows_no_row : view site manager (asking listing.Cancel (codes "*") true None) ≡ Ok []
cancel_shows_no_row = refl
