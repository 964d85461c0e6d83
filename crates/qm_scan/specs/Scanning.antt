-- A scan, and the row that it gives next.
-- OpenVMS System Services Reference Manual, $GETQUI, on wildcard searches.
use Rattle.std.specs.Prelude.{true, Option, None, Some}
use Rattle.qm_model.specs.Common.{After, Listing, Query, Row, System}
use Rattle.qm_kinds.specs.declared.query.After.TheVariants as after
use Rattle.qm_kinds.specs.declared.query.Listing.TheVariants as listing
use Rattle.qm_kinds.specs.declared.query.Row.TheVariants as row
use Rattle.qm_scan.specs.Listed.{row_asked}
use Rattle.qm_scan.specs.declared.scan.Scan.{Scan}
use Rattle.qm_scan.specs.declared.scan.ScanKind.{ScanKind}
use Rattle.qm_scan.specs.declared.scan.ScanKind.TheVariants.{Queues, Jobs, Entries, Forms, Characteristics}

-- the listing that a scan goes through
abbrev pub listing_of : ScanKind → Listing
listing_of Queues = listing.Queues
listing_of Jobs = listing.Jobs
listing_of Entries = listing.Entries
listing_of Forms = listing.Forms
listing_of Characteristics = listing.Characteristics

-- one row behind the last, of all users and all kinds of queue
abbrev pub query_of : Scan → Query
query_of scan = record {
  listing = listing_of scan.kind;
  pattern = scan.pattern;
  number = None;
  user = None;
  kinds = record { batch = true; print = true; generic_batch = true; generic_print = true };
  queue = scan.queue;
  after = scan.after;
  single = true;
}

-- the row that a scan gives next of a system, if there is one
abbrev pub row_behind : Scan → System → Option Row
row_behind scan s = row_asked s (query_of scan)

-- where a listing goes on behind a row
abbrev pub place_behind : Row → Option After
place_behind (row.Queue q) = Some (after.Name q.name)
place_behind (row.Entry e) = Some (after.Number e.number)
place_behind (row.Form f) = Some (after.Number f.number)
place_behind (row.Characteristic c) = Some (after.Number c.number)
place_behind (row.Manager node epoch may) = None

-- the scan behind what it gave
abbrev pub behind_row : Scan → Option Row → Scan
behind_row scan None = scan
behind_row scan (Some r) = record scan { after = place_behind r }
