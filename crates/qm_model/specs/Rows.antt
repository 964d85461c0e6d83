-- The rows of each listing.
-- OpenVMS System Services Reference Manual, $GETQUI, on its display functions; DCL Dictionary, SHOW QUEUE and SHOW ENTRY.
use Rattle.std.specs.Prelude.{ℕ, nat_lt, Bool, true, false, ◌&&◌, if◌then◌else◌, List, [], ◌∷◌, map, filter, find, flat_map, Option, None, Some, Result, Ok, Err, bytes_eq}
use Rattle.std.specs.Option.{option_map_or}
use Rattle.std.specs.Ordering.{is_lt}
use Rattle.qm_kinds.specs.Wildcards.{matches}
use Rattle.qm_kinds.specs.declared.entry.Entry.{Entry}
use Rattle.qm_kinds.specs.declared.queue.Queue.{Queue}
use Rattle.qm_kinds.specs.declared.queue.QueueKind.{QueueKind}
use Rattle.qm_kinds.specs.declared.queue.QueueKind.TheVariants.{Batch, Print, GenericBatch, GenericPrint}
use Rattle.qm_kinds.specs.declared.query.After.{After}
use Rattle.qm_kinds.specs.declared.query.Kinds.{Kinds}
use Rattle.qm_kinds.specs.declared.query.Listing.{Listing}
use Rattle.qm_kinds.specs.declared.query.Listing.TheVariants.{Queues, Jobs, Entries, Forms, Characteristics, Manager, Cancel}
use Rattle.qm_kinds.specs.declared.query.Query.{Query}
use Rattle.qm_kinds.specs.declared.query.Row.{Row}
use Rattle.qm_kinds.specs.declared.refusal.Refusal.{Refusal}
use Rattle.qm_kinds.specs.declared.refusal.Refusal.TheVariants.{NoContext, NoMore}
use Rattle.qm_kinds.specs.declared.system.System.{System}
use Rattle.qm_kinds.specs.declared.query.After.TheVariants as after
use Rattle.qm_kinds.specs.declared.query.Row.TheVariants as row
use Rattle.qm_model.specs.Find.{name_cmp, entry_numbered}
use Rattle.qm_model.specs.Listing.{entry_row}
use Rattle.qm_model.specs.Standing.{stands_in}

-- the node that is queue manager, and its epoch
pub record ManagerRole : Type 0 where
  pub node : List ℕ
  pub epoch : ℕ

-- queues of the kind are listed
abbrev pub is_kind_listed : Kinds → QueueKind → Bool
is_kind_listed kinds Batch = kinds.batch
is_kind_listed kinds Print = kinds.print
is_kind_listed kinds GenericBatch = kinds.generic_batch
is_kind_listed kinds GenericPrint = kinds.generic_print

-- all users' entries, or those of one
abbrev pub is_of_user : Option (List ℕ) → Entry → Bool
is_of_user user e = option_map_or (bytes_eq e.user) user true

-- the entry stands in the queue
abbrev pub stands_there : List ℕ → Entry → Bool
stands_there queue e = bytes_eq (stands_in e) queue

-- the queues that are listed, in their order
abbrev pub listed_queues : System → Query → List Queue
listed_queues s q = filter (λ queue. matches q.pattern queue.name && is_kind_listed q.kinds queue.kind) s.queues

-- the entries that stand in a queue, as far as the user's are listed
abbrev pub entries_below : System → Query → Queue → List Entry
entries_below s q queue = filter (λ e. stands_there queue.name e && is_of_user q.user e) s.entries

-- a queue, and the entries that stand in it
abbrev pub queue_rows : System → Query → Queue → List Row
queue_rows s q queue = row.Queue queue ∷ map (λ e. row.Entry e) (entries_below s q queue)

-- the entries of all queues, or of one, by the name of the job
abbrev pub listed_entries : System → Query → Option (List ℕ) → List Entry
listed_entries s q queue =
    filter (λ e. matches q.pattern e.name && is_of_user q.user e && option_map_or (λ name. stands_there name e) queue true) s.entries

-- the rows of a listing, of which each stands for itself
abbrev pub single_rows : System → Query → Listing → List Row
single_rows s q Queues = map (λ queue. row.Queue queue) (listed_queues s q)
single_rows s q Jobs = map (λ e. row.Entry e) (listed_entries s q q.queue)
single_rows s q Entries = map (λ e. row.Entry e) (listed_entries s q None)
single_rows s q Forms = map (λ f. row.Form f) (filter (λ f. matches q.pattern f.name) s.forms)
single_rows s q Characteristics = map (λ c. row.Characteristic c) (filter (λ c. matches q.pattern c.name) s.characteristics)
single_rows s q Manager = []
single_rows s q Cancel = []

-- all rows of a listing; below a queue stand its entries
abbrev pub all_rows : System → Query → Listing → List Row
all_rows s q Queues = flat_map (queue_rows s q) (listed_queues s q)
all_rows s q Jobs = single_rows s q Jobs
all_rows s q Entries = single_rows s q Entries
all_rows s q Forms = single_rows s q Forms
all_rows s q Characteristics = single_rows s q Characteristics
all_rows s q Manager = []
all_rows s q Cancel = []

-- queues go on behind a name, and all other rows behind a number
abbrev pub is_past : After → Row → Bool
is_past (after.Name name) (row.Queue queue) = is_lt (name_cmp name queue.name)
is_past (after.Name name) (row.Entry e) = false
is_past (after.Name name) (row.Form f) = false
is_past (after.Name name) (row.Characteristic c) = false
is_past (after.Name name) (row.Manager node epoch may) = false
is_past (after.Number number) (row.Queue queue) = false
is_past (after.Number number) (row.Entry e) = nat_lt number e.number
is_past (after.Number number) (row.Form f) = nat_lt number f.number
is_past (after.Number number) (row.Characteristic c) = nat_lt number c.number
is_past (after.Number number) (row.Manager node epoch may) = false

-- the first row behind the last one given
abbrev pub next_row : Option After → List Row → Option Row
next_row last rows = find (λ r. option_map_or (λ a. is_past a r) last true) rows

-- the row, or the end of the listing
abbrev pub one_row : Listing → Option Row → Result (List Row) Refusal
one_row listing None = Err (NoMore listing)
one_row listing (Some r) = Ok (r ∷ [])

-- the next row of a listing that goes on one by one, or all its rows
abbrev pub rows_listed : System → Query → Result (List Row) Refusal
rows_listed s q = if q.single then one_row q.listing (next_row q.after (single_rows s q q.listing)) else Ok (all_rows s q q.listing)

-- the entries of the queue that was listed last, if there was one
abbrev pub rows_of_jobs : System → Query → Option (List ℕ) → Result (List Row) Refusal
rows_of_jobs s q None = Err NoContext
rows_of_jobs s q (Some queue) = rows_listed s q

-- one entry, or a listing of entries
abbrev pub rows_of_entries : System → Query → Option ℕ → Result (List Row) Refusal
rows_of_entries s q None = rows_listed s q
rows_of_entries s q (Some number) = entry_row number (entry_numbered number s.entries)

-- the row of the queue manager
abbrev pub manager_row : System → ManagerRole → Row
manager_row s m = row.Manager m.node m.epoch s.may

-- the rows of a listing of a kind
abbrev pub rows_in : System → Option ManagerRole → Query → Listing → Result (List Row) Refusal
rows_in s manager q Queues = rows_listed s q
rows_in s manager q Jobs = rows_of_jobs s q q.queue
rows_in s manager q Entries = rows_of_entries s q q.number
rows_in s manager q Forms = rows_listed s q
rows_in s manager q Characteristics = rows_listed s q
rows_in s manager q Manager = Ok (option_map_or (λ m. manager_row s m ∷ []) manager [])
rows_in s manager q Cancel = Ok []

-- The rows of a listing, or why there are none. While a node is queue manager, a listing of it has one row.
abbrev pub view : System → Option ManagerRole → Query → Result (List Row) Refusal
view s manager q = rows_in s manager q q.listing
