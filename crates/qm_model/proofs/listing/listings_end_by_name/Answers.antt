use Rattle.std.proofs.Common.{◌≡◌, ℕ, Bool, true, false, cond, List, refl, ◌∙◌, Option, None, Some, Ok, Err}
use Rattle.qm_model.specs.Common.{Entry, Listing, Queues, Jobs, Entries, Forms, Characteristics, Manager, Cancel, Query, Row, System, entry_numbered}
use Rattle.qm_kinds.specs.declared.refusal.Refusal.TheVariants.{NoMore}
use Rattle.qm_model.specs.Listing.{entry_row}
use Rattle.qm_model.specs.Rows.{ManagerRole, one_row, rows_listed, rows_of_jobs, rows_of_entries, rows_in, next_row, single_rows, all_rows}
use Rattle.qm_model.proofs.listing.listings_end_by_name.Goals as goal

-- the listing that ends, and that it was read row by row
abbrev Ends : Query → Listing → Type 0
Ends q what = (what ≡ q.listing) × (q.single ≡ true)

row_ends : (q : Query) (what : Listing) (o : Option Row) → one_row q.listing o ≡ Err (NoMore what) → what ≡ q.listing
row_ends q what None h = cc
row_ends q what (Some r) h = cc

read_ends : (q : Query) (what : Listing) (b : Bool) (o : Option Row) (rows : List Row) → q.single ≡ b → cond b (one_row q.listing o) (Ok rows) ≡ Err (NoMore what) → Ends q what
read_ends q what true o rows is h = (row_ends q what o h, is)
read_ends q what false o rows is h = cc

listed_ends : (s : System) (q : Query) (what : Listing) → rows_listed s q ≡ Err (NoMore what) → Ends q what
listed_ends s q what h = read_ends q what q.single (next_row q.after (single_rows s q q.listing)) (all_rows s q q.listing) refl h

jobs_end : (s : System) (q : Query) (what : Listing) (o : Option (List ℕ)) → rows_of_jobs s q o ≡ Err (NoMore what) → Ends q what
jobs_end s q what None h = cc
jobs_end s q what (Some queue) h = listed_ends s q what h

entry_ends : (q : Query) (what : Listing) (number : ℕ) (o : Option Entry) → entry_row number o ≡ Err (NoMore what) → Ends q what
entry_ends q what number None h = cc
entry_ends q what number (Some e) h = cc

entries_end : (s : System) (q : Query) (what : Listing) (o : Option ℕ) → rows_of_entries s q o ≡ Err (NoMore what) → Ends q what
entries_end s q what None h = listed_ends s q what h
entries_end s q what (Some number) h = entry_ends q what number (entry_numbered number s.entries) h

ends : (s : System) (manager : Option ManagerRole) (q : Query) (what listing : Listing) → rows_in s manager q listing ≡ Err (NoMore what) → Ends q what
ends s manager q what Jobs h = jobs_end s q what q.queue h
ends s manager q what Entries h = entries_end s q what q.number h
ends s manager q what Manager h = cc
ends s manager q what Cancel h = cc
ends s manager q what _ h = listed_ends s q what h

never_manager : (s : System) (manager : Option ManagerRole) (q : Query) (listing : Listing) → q.listing ≡ listing → rows_in s manager q listing ≡ Err (NoMore Manager) → ⊥
never_manager s manager q Manager is h = cc
never_manager s manager q Queues is h = let same : ◌≡◌ {A = Listing} Manager Queues = (ends s manager q Manager Queues h).0 ∙ is in cc
never_manager s manager q Jobs is h = let same : ◌≡◌ {A = Listing} Manager Jobs = (ends s manager q Manager Jobs h).0 ∙ is in cc
never_manager s manager q Entries is h = let same : ◌≡◌ {A = Listing} Manager Entries = (ends s manager q Manager Entries h).0 ∙ is in cc
never_manager s manager q Forms is h = let same : ◌≡◌ {A = Listing} Manager Forms = (ends s manager q Manager Forms h).0 ∙ is in cc
never_manager s manager q Characteristics is h = let same : ◌≡◌ {A = Listing} Manager Characteristics = (ends s manager q Manager Characteristics h).0 ∙ is in cc
never_manager s manager q Cancel is h = cc

never_cancel : (s : System) (manager : Option ManagerRole) (q : Query) (listing : Listing) → q.listing ≡ listing → rows_in s manager q listing ≡ Err (NoMore Cancel) → ⊥
never_cancel s manager q Cancel is h = cc
never_cancel s manager q Queues is h = let same : ◌≡◌ {A = Listing} Cancel Queues = (ends s manager q Cancel Queues h).0 ∙ is in cc
never_cancel s manager q Jobs is h = let same : ◌≡◌ {A = Listing} Cancel Jobs = (ends s manager q Cancel Jobs h).0 ∙ is in cc
never_cancel s manager q Entries is h = let same : ◌≡◌ {A = Listing} Cancel Entries = (ends s manager q Cancel Entries h).0 ∙ is in cc
never_cancel s manager q Forms is h = let same : ◌≡◌ {A = Listing} Cancel Forms = (ends s manager q Cancel Forms h).0 ∙ is in cc
never_cancel s manager q Characteristics is h = let same : ◌≡◌ {A = Listing} Cancel Characteristics = (ends s manager q Cancel Characteristics h).0 ∙ is in cc
never_cancel s manager q Manager is h = cc

pub returns-clause-listing : goal.returns-clause-listing
returns-clause-listing c s manager q what h = (ends s manager q what q.listing h).0

pub returns-clause-single : goal.returns-clause-single
returns-clause-single c s manager q what h = (ends s manager q what q.listing h).1

pub returns-clause-no_manager : goal.returns-clause-no_manager
returns-clause-no_manager c s manager q h = never_manager s manager q q.listing refl h

pub returns-clause-no_cancel : goal.returns-clause-no_cancel
returns-clause-no_cancel c s manager q h = never_cancel s manager q q.listing refl h
