-- What is listed of a site: whose entries, queues of which kinds, forms and characteristics, and the queue manager.
use Rattle.std.proofs.Common.{◌≡◌, ℕ, Bool, true, false, List, [], ◌∷◌, refl, map, Option, None, Some, codes, Result, Ok, Err}
use Rattle.std.specs.Fmt.{digits}
use Rattle.qm_model.specs.Common.{Form, Listing, Query, Row, QueueKind, QueueState, Started, Refusal, DefineForm, DefineCharacteristic, InitializeQueue, Took, System, first_system, view, ManagerRole}
use Rattle.qm_kinds.specs.declared.query.Listing.TheVariants as listing
use Rattle.qm_kinds.specs.declared.query.Row.TheVariants as row
use Rattle.qm_kinds.specs.declared.queue.QueueKind.TheVariants as queue
use Rattle.qm_kinds.specs.declared.refusal.Refusal.TheVariants as refused
use Rattle.qm_model.specs.Words.{entry_text}
use Rattle.qm_model.proofs.Site.{Ask, after, first_asks, no_change, print_queue, generic_queue}
use Rattle.qm_model.proofs.Listings.{asking, labels, site, day}

-- What is shown of a row: of a queue its kind, name, state, node, device and mounted form, of an entry its line.
pub data Shown : Type 0 where
  QueueOf : QueueKind → List ℕ → QueueState → Option (List ℕ) → Option (List ℕ) → Option (List ℕ) → Shown
  Line : List ℕ → Shown
  Other : Row → Shown

abbrev shown_of : Row → Shown
shown_of (row.Queue q) = QueueOf q.kind q.name q.state q.node q.device q.mounted
shown_of (row.Entry e) = Line (entry_text e)
shown_of (row.Form f) = Other (row.Form f)
shown_of (row.Characteristic c) = Other (row.Characteristic c)
shown_of (row.Manager node epoch may) = Other (row.Manager node epoch may)

abbrev shown : Result (List Row) Refusal → Result (List Shown) Refusal
shown (Ok rows) = Ok (map shown_of rows)
shown (Err refusal) = Err refusal

-- all rows of a listing whose names match
abbrev all_of : Listing → List ℕ → Query
all_of what pattern = asking what pattern false None

-- the queues of the small site at the end of its day
abbrev mars_lp : Shown
mars_lp = QueueOf queue.Print (codes "MARS_LP") Started (Some (codes "MARS")) (Some (codes "LPA0")) (Some (codes "INVOICE"))

abbrev pluto_lp : Shown
pluto_lp = QueueOf queue.Print (codes "PLUTO_LP") Started (Some (codes "PLUTO")) (Some (codes "LPA0")) (Some (codes "LETTER"))

abbrev sys_batch : Shown
sys_batch = QueueOf queue.Batch (codes "SYS$BATCH") Started (Some (codes "PLUTO")) (Some (codes "SYS$BATCH")) None

abbrev sys_print : Shown
sys_print = QueueOf queue.GenericPrint (codes "SYS$PRINT") Started None None None

abbrev end_of_day : System
end_of_day = after site day

-- SHOW QUEUE/ALL_JOBS: below each queue all users' entries
pub all_jobs : shown (view end_of_day None (all_of listing.Queues (codes "*")))
    ≡ Ok (mars_lp
    ∷ pluto_lp
    ∷ Line (codes "     1 REPORT           SMITH              13 executing on PLUTO_LP")
    ∷ sys_batch
    ∷ Line (codes "     4 NIGHT            SMITH               1 executing on SYS$BATCH")
    ∷ sys_print
    ∷ Line (codes "     2 REPORT           JONES              13 pending")
    ∷ Line (codes "     3 REPORT           JONES              13 pending")
    ∷ [])
unfolding digits
all_jobs = refl

abbrev of_user : List ℕ → Query → Query
of_user user q = record q { user = Some user }

-- SHOW QUEUE of a user: all queues, and below them the user's entries alone
pub jobs_of_smith : shown (view end_of_day None (of_user (codes "SMITH") (all_of listing.Queues (codes "*"))))
    ≡ Ok (mars_lp
    ∷ pluto_lp
    ∷ Line (codes "     1 REPORT           SMITH              13 executing on PLUTO_LP")
    ∷ sys_batch
    ∷ Line (codes "     4 NIGHT            SMITH               1 executing on SYS$BATCH")
    ∷ sys_print
    ∷ [])
unfolding digits
jobs_of_smith = refl

-- a user without entries sees the queues alone
pub jobs_of_nobody : shown (view end_of_day None (of_user (codes "SYSTEM") (all_of listing.Queues (codes "*")))) ≡ Ok (mars_lp ∷ pluto_lp ∷ sys_batch ∷ sys_print ∷ [])
jobs_of_nobody = refl

-- a user's SHOW QUEUE with a pattern
pub jobs_of_jones_in_some_queues : shown (view end_of_day None (of_user (codes "JONES") (all_of listing.Queues (codes "SYS*"))))
    ≡ Ok (sys_batch
    ∷ sys_print
    ∷ Line (codes "     2 REPORT           JONES              13 pending")
    ∷ Line (codes "     3 REPORT           JONES              13 pending")
    ∷ [])
unfolding digits
jobs_of_jones_in_some_queues = refl

-- SHOW ENTRY of a user: that user's entries whose names match, by number
pub entries_of_smith : shown (view end_of_day None (of_user (codes "SMITH") (all_of listing.Entries (codes "*"))))
    ≡ Ok (Line (codes "     1 REPORT           SMITH              13 executing on PLUTO_LP")
    ∷ Line (codes "     4 NIGHT            SMITH               1 executing on SYS$BATCH")
    ∷ [])
unfolding digits
entries_of_smith = refl

pub reports_of_smith : shown (view end_of_day None (of_user (codes "SMITH") (all_of listing.Entries (codes "REP*"))))
    ≡ Ok (Line (codes "     1 REPORT           SMITH              13 executing on PLUTO_LP") ∷ [])
unfolding digits
reports_of_smith = refl

-- SHOW ENTRY with a number shows that entry, whoever's it is
abbrev numbered : ℕ → Query
numbered number = record (of_user (codes "SMITH") (all_of listing.Entries (codes "*"))) { number = Some number }

pub entry_by_number : shown (view end_of_day None (numbered 3)) ≡ Ok (Line (codes "     3 REPORT           JONES              13 pending") ∷ [])
unfolding digits
entry_by_number = refl

-- no entry has the number
pub no_such_entry : view end_of_day None (numbered 5) ≡ Err (refused.NoSuchEntry 5)
no_such_entry = refl

-- a site with one queue of each kind
abbrev four_kinds : System
four_kinds = after (first_system (codes "A")) (first_asks
    (print_queue (codes "LP") true no_change
    ∷ generic_queue (codes "GP") (codes "LP" ∷ [])
    ∷ InitializeQueue (record { name = codes "NIGHT"; kind = queue.GenericBatch; node = None; device = None; targets = codes "SYS$BATCH" ∷ []; change = no_change; start = true })
    ∷ []))

-- SHOW QUEUE with /BATCH, with /DEVICE and with /GENERIC
abbrev of_kinds : Bool → Bool → Bool → Query
of_kinds batch device generic = record (all_of listing.Queues (codes "*")) { kinds = record { batch = batch; print = device; generic_batch = generic; generic_print = generic } }

pub batch_queues : labels (view four_kinds None (of_kinds true false false)) ≡ Ok (codes "SYS$BATCH" ∷ [])
batch_queues = refl

pub device_queues : labels (view four_kinds None (of_kinds false true false)) ≡ Ok (codes "LP" ∷ [])
device_queues = refl

pub generic_queues : labels (view four_kinds None (of_kinds false false true)) ≡ Ok (codes "GP" ∷ codes "NIGHT" ∷ [])
generic_queues = refl

-- several kinds add up
pub batch_and_device_queues : labels (view four_kinds None (of_kinds true true false)) ≡ Ok (codes "LP" ∷ codes "SYS$BATCH" ∷ [])
batch_and_device_queues = refl

pub batch_and_generic_queues : labels (view four_kinds None (of_kinds true false true)) ≡ Ok (codes "GP" ∷ codes "NIGHT" ∷ codes "SYS$BATCH" ∷ [])
batch_and_generic_queues = refl

pub queues_of_all_kinds : labels (view four_kinds None (of_kinds true true true)) ≡ Ok (codes "GP" ∷ codes "LP" ∷ codes "NIGHT" ∷ codes "SYS$BATCH" ∷ [])
queues_of_all_kinds = refl

-- entries stand below the queues of the kinds that are asked for, and no others
pub jobs_of_device_queues : shown (view end_of_day None (of_kinds false true false))
    ≡ Ok (mars_lp ∷ pluto_lp ∷ Line (codes "     1 REPORT           SMITH              13 executing on PLUTO_LP") ∷ [])
unfolding digits
jobs_of_device_queues = refl

-- forms and characteristics that are defined in another order than that of their numbers
abbrev pub with_stationery : System
with_stationery = after (first_system (codes "A")) (first_asks
    (DefineForm (record { name = codes "INVOICE"; number = 20; stock = codes "YELLOW"; shape = record { length = 66; width = 80; top = 0; bottom = 6; left = 0; right = 0; wrap = true } })
    ∷ DefineForm (record { name = codes "LETTER"; number = 3; stock = codes "WHITE"; shape = record { length = 60; width = 132; top = 2; bottom = 2; left = 0; right = 0; wrap = false } })
    ∷ DefineCharacteristic (record { name = codes "COLOUR"; number = 127 })
    ∷ DefineCharacteristic (record { name = codes "DUPLEX"; number = 7 })
    ∷ DefineCharacteristic (record { name = codes "STAPLE"; number = 30 })
    ∷ []))

abbrev pub default_form : Form
default_form = record { name = codes "DEFAULT"; number = 0; stock = codes "DEFAULT"; shape = record { length = 66; width = 132; top = 0; bottom = 6; left = 0; right = 0; wrap = false } }

abbrev pub letter_form : Form
letter_form = record { name = codes "LETTER"; number = 3; stock = codes "WHITE"; shape = record { length = 60; width = 132; top = 2; bottom = 2; left = 0; right = 0; wrap = false } }

abbrev pub invoice_form : Form
invoice_form = record { name = codes "INVOICE"; number = 20; stock = codes "YELLOW"; shape = record { length = 66; width = 80; top = 0; bottom = 6; left = 0; right = 0; wrap = true } }

-- forms by number
pub forms_by_number : view with_stationery None (all_of listing.Forms (codes "*")) ≡ Ok (row.Form default_form ∷ row.Form letter_form ∷ row.Form invoice_form ∷ [])
forms_by_number = refl

-- forms and characteristics whose names match
pub forms_that_match : view with_stationery None (all_of listing.Forms (codes "%E*")) ≡ Ok (row.Form default_form ∷ row.Form letter_form ∷ [])
forms_that_match = refl

-- characteristics by number
pub characteristics_by_number : view with_stationery None (all_of listing.Characteristics (codes "*"))
    ≡ Ok (row.Characteristic (record { name = codes "DUPLEX"; number = 7 })
    ∷ row.Characteristic (record { name = codes "STAPLE"; number = 30 })
    ∷ row.Characteristic (record { name = codes "COLOUR"; number = 127 })
    ∷ [])
characteristics_by_number = refl

pub characteristics_that_match : view with_stationery None (all_of listing.Characteristics (codes "*PL*"))
    ≡ Ok (row.Characteristic (record { name = codes "DUPLEX"; number = 7 }) ∷ row.Characteristic (record { name = codes "STAPLE"; number = 30 }) ∷ [])
characteristics_that_match = refl

-- nothing that matches is an empty listing, where all rows are asked for
pub no_characteristic_matches : view with_stationery None (all_of listing.Characteristics (codes "X*")) ≡ Ok []
no_characteristic_matches = refl

-- a node that took over at an epoch
abbrev manager : List ℕ → ℕ → Option ManagerRole
manager node epoch = Some (record { node = node; epoch = epoch })

-- the manager's row: the node, its epoch and the nodes that may be manager
pub first_manager : view site (manager (codes "PLUTO") 1) (all_of listing.Manager (codes "*")) ≡ Ok (row.Manager (codes "PLUTO") 1 (codes "PLUTO" ∷ codes "MARS" ∷ []) ∷ [])
first_manager = refl

-- MARS takes the role, as the only node that may be manager from then on
abbrev mars_takes_over : List Ask
mars_takes_over = let taking : Ask = record { now = 0; node = 1; request = Took 2 [] (codes "PLUTO" ∷ codes "MARS" ∷ []) (codes "MARS" ∷ []) } in taking ∷ []

-- the nodes that may be manager are those that the last takeover named
pub next_manager : view (after site mars_takes_over) (manager (codes "MARS") 2) (all_of listing.Manager (codes "*")) ≡ Ok (row.Manager (codes "MARS") 2 (codes "MARS" ∷ []) ∷ [])
next_manager = refl

-- ending all listings shows no row
pub cancel_shows_nothing : view end_of_day (manager (codes "PLUTO") 1) (all_of listing.Cancel (codes "*")) ≡ Ok []
cancel_shows_nothing = refl
