-- What SHOW QUEUE and SHOW ENTRY ask for.
-- DCL Dictionary, SHOW ENTRY, SHOW QUEUE, SHOW QUEUE/CHARACTERISTICS, SHOW QUEUE/FORM and SHOW QUEUE/MANAGERS.
use Rattle.std.specs.Prelude.{ℕ, Bool, true, false, ◌||◌, if◌then◌else◌, List, [], ◌∷◌, Option, None, Some, unwrap_or}
use Rattle.qm_model.specs.Common.{Kinds, Listing, Queues, Entries, Forms, Characteristics, Manager, Query}
use Rattle.qm_dcl.specs.declared.settings.ListingSettings.{ListingSettings}
use Rattle.qm_dcl.specs.declared.settings.Settings.{Settings}

-- queues of all kinds
abbrev pub all_kinds : Kinds
all_kinds = record { batch = true; print = true; generic_batch = true; generic_print = true }

-- all rows of a listing whose names match; without a pattern each name does
abbrev pub listing_of : Listing → Option (List ℕ) → Option (List ℕ) → Kinds → Query
listing_of what pattern user kinds = record {
  listing = what;
  pattern = unwrap_or pattern (42 ∷ []);
  number = None;
  user = user;
  kinds = kinds;
  queue = None;
  after = None;
  single = false;
}

-- the kinds of queue that are named, or all where none is
abbrev pub kinds_shown : ListingSettings → Kinds
kinds_shown listing =
    if listing.batch || listing.device || listing.generic
    then record { batch = listing.batch; print = listing.device; generic_batch = listing.generic; generic_print = listing.generic }
    else all_kinds

-- queues, and below them the user's jobs, or those of all users
abbrev pub queues_query : List ℕ → ListingSettings → Query
queues_query user listing = listing_of Queues listing.pattern (if listing.all_jobs then None else Some user) (kinds_shown listing)

-- one entry, whatever its user, queue and kind
abbrev pub query_of : ℕ → Query
query_of number = record (listing_of Entries None None all_kinds) { number = Some number }

-- the entry of a number, or the user's by the names of their jobs
abbrev pub entries_query : List ℕ → Option (List ℕ) → Option ℕ → Query
entries_query user pattern None = listing_of Entries pattern (Some user) all_kinds
entries_query user pattern (Some number) = query_of number

-- forms by their names
abbrev pub forms_query : Option (List ℕ) → Query
forms_query pattern = listing_of Forms pattern None all_kinds

-- characteristics by their names
abbrev pub characteristics_query : Option (List ℕ) → Query
characteristics_query pattern = listing_of Characteristics pattern None all_kinds

-- the queue manager
abbrev pub manager_query : Query
manager_query = listing_of Manager None None all_kinds
