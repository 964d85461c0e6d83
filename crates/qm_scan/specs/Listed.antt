-- What is listed, row by row.
use Rattle.std.specs.Prelude.{◌≡◌, ℕ, ◌==◌, Bool, true, false, ◌&&◌, if◌then◌else◌, List, [], ◌∷◌, ◌++◌, filter, find, flat_map, map, slice_get, slice_index_or, slice_set, Option, Some, bytes_eq}
use Rattle.std.specs.Option.{option_map_or}
use Rattle.qm_model.specs.Common.{matches, Entry, Characteristic, Form, Queue, After, Query, Row, System}
use Rattle.qm_kinds.specs.declared.query.Row.TheVariants as row
use Rattle.qm_model.specs.Rows.{is_kind_listed, is_of_user, is_past, next_row, single_rows, stands_there}

-- the queue is listed
abbrev pub is_queue_listed : Query → Queue → Bool
is_queue_listed q queue = matches q.pattern queue.name && is_kind_listed q.kinds queue.kind

-- the entry is listed, among those of all queues or of one
abbrev pub is_entry_listed : Query → Option (List ℕ) → Entry → Bool
is_entry_listed q queue e = matches q.pattern e.name && is_of_user q.user e && option_map_or (λ name. stands_there name e) queue true

-- the entry is listed among those of a queue, and has it as its home
abbrev pub is_listed_at_home : Query → List ℕ → Entry → Bool
is_listed_at_home q queue e = bytes_eq e.home queue && is_entry_listed q (Some queue) e

-- the rows of the queues that are listed
abbrev pub listed_queue_rows : Query → List Queue → List Row
listed_queue_rows q queues = map (λ queue. row.Queue queue) (filter (is_queue_listed q) queues)

-- the rows of the entries that are listed, among those of all queues or of one
abbrev pub listed_entry_rows : Query → Option (List ℕ) → List Entry → List Row
listed_entry_rows q queue entries = map (λ e. row.Entry e) (filter (is_entry_listed q queue) entries)

-- the rows of the forms whose names match
abbrev pub listed_form_rows : List ℕ → List Form → List Row
listed_form_rows pattern forms = map (λ f. row.Form f) (filter (λ f. matches pattern f.name) forms)

-- the rows of the characteristics whose names match
abbrev pub listed_characteristic_rows : List ℕ → List Characteristic → List Row
listed_characteristic_rows pattern defined = map (λ c. row.Characteristic c) (filter (λ c. matches pattern c.name) defined)

-- the row of an entry that is listed, among those of all queues or of one
abbrev pub row_if_listed : Query → Option (List ℕ) → Entry → List Row
row_if_listed q queue e = if is_entry_listed q queue e then row.Entry e ∷ [] else []

-- the entry is listed below a queue
abbrev pub is_below : Query → Queue → Entry → Bool
is_below q queue e = stands_there queue.name e && is_of_user q.user e

-- a queue, and below it the entries of a list that stand in it
abbrev pub rows_below : Query → List Entry → Queue → List Row
rows_below q entries queue = row.Queue queue ∷ map (λ e. row.Entry e) (filter (is_below q queue) entries)

-- those of a queue that is listed, and of any other one none
abbrev pub rows_of_queue : Query → List Entry → Queue → List Row
rows_of_queue q entries queue = if is_queue_listed q queue then rows_below q entries queue else []

-- the rows of the queues that are listed, below each the entries of a list that stand in it
abbrev pub listed_rows_below : Query → List Entry → List Queue → List Row
listed_rows_below q entries queues = flat_map (rows_below q entries) (filter (is_queue_listed q) queues)

-- these are the rows of each queue
abbrev pub AreBelow : Query → List Queue → List Entry → List (List Row) → Type 0
AreBelow q queues entries groups =
    (place : ℕ) (queue : Queue) → slice_get queues place ≡ Some queue → slice_index_or groups place [] ≡ rows_of_queue q entries queue

-- the row stands behind the one that was given last, if one was
abbrev pub is_behind : Option After → Row → Bool
is_behind last r = option_map_or (λ a. is_past a r) last true

-- the first queue that is listed, behind the row that was given last
abbrev pub next_queue : Query → List Queue → Option Queue
next_queue q queues = find (λ queue. is_behind q.after (row.Queue queue) && is_queue_listed q queue) queues

-- the first entry that is listed, of all queues or of one, behind that row
abbrev pub next_entry : Query → Option (List ℕ) → List Entry → Option Entry
next_entry q queue entries = find (λ e. is_behind q.after (row.Entry e) && is_entry_listed q queue e) entries

-- the first of them that has the queue as its home
abbrev pub next_at_home : Query → List ℕ → List Entry → Option Entry
next_at_home q queue entries = find (λ e. is_behind q.after (row.Entry e) && is_listed_at_home q queue e) entries

-- the first form whose name matches, behind that row
abbrev pub next_form : Query → List Form → Option Form
next_form q forms = find (λ f. is_behind q.after (row.Form f) && matches q.pattern f.name) forms

-- the first characteristic whose name matches, behind that row
abbrev pub next_characteristic : Query → List Characteristic → Option Characteristic
next_characteristic q defined = find (λ c. is_behind q.after (row.Characteristic c) && matches q.pattern c.name) defined

-- the next row of a system that is asked for, if there is one
abbrev pub row_asked : System → Query → Option Row
row_asked s q = next_row q.after (single_rows s q q.listing)

-- what passes the test is found in the rest as it is in all, whatever else is asked of it
abbrev pub AreFoundIn : {A : Type 0} → (A → Bool) → List A → List A → Type 0
AreFoundIn {A} passes all rest = (p : A → Bool) → find (λ x. passes x && p x) all ≡ find p rest

-- the place is this one
abbrev pub is_place : ℕ → Option ℕ → Bool
is_place place found = option_map_or (λ p. place == p) found false

-- the place, if there is one, is that of the queue of the name, and of no other queue
abbrev pub IsPlaceOf : List ℕ → List Queue → Option ℕ → Type 0
IsPlaceOf name queues found =
    (place : ℕ) (queue : Queue) → slice_get queues place ≡ Some queue → bytes_eq name queue.name ≡ is_place place found

-- the groups, with the row of an entry behind the others of the one at a place
abbrev pub with_entry : List (List Row) → ℕ → Entry → List (List Row)
with_entry groups place e = slice_set groups place (slice_index_or groups place [] ++ row.Entry e ∷ [])

-- the row of an entry below a queue, if both are listed and it stands there
abbrev pub row_if_below : Query → Queue → Entry → List Row
row_if_below q queue e = if is_queue_listed q queue && is_below q queue e then row.Entry e ∷ [] else []

-- each group has the row of the entry behind its others, if it is listed below the queue of that group
abbrev pub HaveGained : Query → List Queue → Entry → List (List Row) → List (List Row) → Type 0
HaveGained q queues e old new =
    (place : ℕ) (queue : Queue) → slice_get queues place ≡ Some queue
    → slice_index_or new place [] ≡ slice_index_or old place [] ++ row_if_below q queue e
