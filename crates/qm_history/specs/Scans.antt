-- The listings that a node has begun by item lists, as its turns tell.
-- OpenVMS System Services Reference Manual, $GETQUI, on wildcard searches and the calls that go on with them.
-- This site's own: one listing for each function and node, which a STOP of the node ends.
use Rattle.std.specs.Prelude.{ℕ, List, [], ◌∷◌, fold, Bool, true, false, Option, None, Some, unwrap_or}
use Rattle.qm_kinds.specs.declared.input.Input.TheVariants as input
use Rattle.qm_model.specs.Common.{After, Listing, Query, Row, Refusal}
use Rattle.qm_kinds.specs.declared.query.After.TheVariants as after
use Rattle.qm_kinds.specs.declared.query.Listing.TheVariants as listing
use Rattle.qm_kinds.specs.declared.query.Row.TheVariants as row
use Rattle.qm_kinds.specs.declared.refusal.Refusal.TheVariants as refused
use Rattle.qm_history.specs.declared.call.Answer.{Answer}
use Rattle.qm_history.specs.declared.call.Answer.TheVariants as answer
use Rattle.qm_history.specs.declared.event.Event.{Event}
use Rattle.qm_history.specs.declared.event.Event.TheVariants as event
use Rattle.qm_history.specs.Course.{answered}
use Rattle.qm_history.specs.Visits.{Visit}

-- the listings that were begun, each behind the last row that it gave, and the queue that was given last
pub record Scans : Type 0 where
  pub queues : Option Query
  pub jobs : Option Query
  pub entries : Option Query
  pub forms : Option Query
  pub characteristics : Option Query
  pub found : Option (List ℕ)

-- none was begun
abbrev pub no_scans : Scans
no_scans = record { queues = None; jobs = None; entries = None; forms = None; characteristics = None; found = None }

-- the listing of a function that was begun, if it was
abbrev pub scan_of : Scans → Listing → Option Query
scan_of s listing.Queues = s.queues
scan_of s listing.Jobs = s.jobs
scan_of s listing.Entries = s.entries
scan_of s listing.Forms = s.forms
scan_of s listing.Characteristics = s.characteristics
scan_of s listing.Manager = None
scan_of s listing.Cancel = None

-- the listing is behind a row, or ended; one of queues ends that of their jobs
abbrev pub with_scan : Scans → Listing → Option Query → Scans
with_scan s listing.Queues q = record s { queues = q; jobs = None }
with_scan s listing.Jobs q = record s { jobs = q }
with_scan s listing.Entries q = record s { entries = q }
with_scan s listing.Forms q = record s { forms = q }
with_scan s listing.Characteristics q = record s { characteristics = q }
with_scan s listing.Manager q = s
with_scan s listing.Cancel q = s

-- where a listing goes on behind a row
abbrev pub place_behind : Row → Option After
place_behind (row.Queue q) = Some (after.Name q.name)
place_behind (row.Entry e) = Some (after.Number e.number)
place_behind (row.Form f) = Some (after.Number f.number)
place_behind (row.Characteristic c) = Some (after.Number c.number)
place_behind (row.Manager node epoch may) = None

-- the queue that a row gives
abbrev pub with_found : Scans → Row → Scans
with_found s (row.Queue q) = record s { found = Some q.name }
with_found s (row.Entry e) = s
with_found s (row.Form f) = s
with_found s (row.Characteristic c) = s
with_found s (row.Manager node epoch may) = s

-- behind a row that a listing gave
abbrev pub behind_rows : Scans → Query → List Row → Scans
behind_rows s q [] = s
behind_rows s q (r ∷ rows) = with_found (with_scan s q.listing (Some (record q { after = place_behind r }))) r

-- behind a query of an item list that was shown: a row, or that everything ended
abbrev pub behind_shown : Scans → Query → Listing → List Row → Scans
behind_shown s q listing.Cancel rows = no_scans
behind_shown s q listing.Queues rows = behind_rows s q rows
behind_shown s q listing.Jobs rows = behind_rows s q rows
behind_shown s q listing.Entries rows = behind_rows s q rows
behind_shown s q listing.Forms rows = behind_rows s q rows
behind_shown s q listing.Characteristics rows = behind_rows s q rows
behind_shown s q listing.Manager rows = s

-- a refused query ends its listing where that has no more rows
abbrev pub behind_refusal : Scans → Query → Refusal → Scans
behind_refusal s q (refused.NoMore what) = with_scan s q.listing None
behind_refusal s q other = s

-- the rows of an answer
abbrev pub rows_of : Answer → List Row
rows_of (answer.Shown took moment rows) = rows
rows_of other = []

-- what an input by an item list leaves; other listings neither begin nor move one
abbrev pub behind_view : Scans → Query → Bool → List Row → Scans
behind_view s q true rows = behind_shown s q q.listing rows
behind_view s q false rows = s

abbrev pub unless_listed : Scans → Query → Bool → Refusal → Scans
unless_listed s q true refusal = behind_refusal s q refusal
unless_listed s q false refusal = s

-- what an event of the node's own turn leaves, of whose turn these rows were the answer
abbrev pub behind_event : List Row → Scans → Event → Scans
behind_event rows s (event.Shown node moment (input.Show q)) = behind_view s q q.single rows
behind_event rows s (event.Refused node moment (input.Show q) refusal) = unless_listed s q q.single refusal
behind_event rows s (event.Stopped node) = no_scans
behind_event rows s other = s

-- the listings behind a turn
abbrev pub behind_turn : Scans → Visit → Scans
behind_turn s v = fold (behind_event (rows_of (answered v))) s v.turn.events

-- the listings that a node has begun in its turns so far
abbrev pub scans_of : List Visit → Scans
scans_of visits = fold behind_turn no_scans visits

-- a query of an item list goes on with the listing that was begun, whatever it searches for; one of jobs begins in the queue that
-- was given last
abbrev pub begun_query : Scans → Query → Listing → Query
begun_query s q listing.Jobs = record q { queue = s.found }
begun_query s q other = q

abbrev pub scanned : Scans → Query → Bool → Query
scanned s q true = unwrap_or (scan_of s q.listing) (begun_query s q q.listing)
scanned s q false = q
