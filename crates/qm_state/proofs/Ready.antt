-- A change that can be made on an image can still be made on one that has lost entries, and no more.
use Rattle.std.proofs.Common.{◌≡◌, ◌∙◌, ℕ, ◌≤◌, ◌<◌, false, not, List, length, get_or, count_by, filter, find, map, None, refl, sym, ap, subst, arith, All, IsSome}
use Rattle.std.proofs.lemmas.List.{length-map}
use Rattle.std.proofs.lemmas.List.Filters.{length-filter_both}
use Rattle.qm_model.specs.Common.{Entry, FileName, Queue, System, is_spool_full, is_characteristic_taken, entry_at, is_over, file_named, same_file_name, is_form_taken, runs_for}
use Rattle.qm_parts.specs.Nodes.{is_run_on_one}
use Rattle.qm_parts.specs.Rooms.{CanPut, HavePlacesFor, is_home, may_come, reach}
use Rattle.qm_parts.specs.Tables.{Tables}
use Rattle.qm_parts.proofs.Reach.{count_map, count_filter_le}
use Rattle.qm_tables.specs.Spool.{Kept, HasRoomFor}
use Rattle.qm_image.proofs.Reached.{NamesItsFile, file_found, no_run_found, unnamed_found}
use Rattle.qm_image.specs.declared.image.Image.{Image}
use Rattle.qm_image.specs.declared.prepared.Change.{Change}
use Rattle.qm_image.specs.declared.prepared.Change.TheVariants.{NewFile, MoreBytes, MoreLines, RemoveFile, NewForm, RemoveForm, NewCharacteristic, RemoveCharacteristic, NewEntry, PutQueue, SetQueue, StopQueue, CutShort, RemoveQueue, Merge, ReplaceEntry, RemoveEntry, Report, NodeUp, LoseNodes, TakeOver, Tick}
use Rattle.qm_image.specs.Image.{system_of}
use Rattle.qm_image.specs.Losing.{HasTimersFor}
use Rattle.qm_image.specs.Preparing.{found, IsReady, IsWaiting}
use Rattle.qm_image.proofs.Changed.{waiting_found}
use Rattle.qm_making.proofs.Lost.{fewer_on_nodes}

-- the files, the tables and the next number stay, but for how often files are named, and for entries, none of which comes
record IsLeft (old new : Image) : Type 0 where
  files : new.spool ≡ record old.spool { counts = new.spool.counts }
  tables : new.parts ≡ record old.parts { entries = new.parts.entries; timers = new.parts.timers; spare_runs = new.parts.spare_runs; spare_timers = new.parts.spare_timers }
  next : old.next_entry ≡ new.next_entry
  timers : old.parts.spare_timers ≤ new.parts.spare_timers
  fewer : length new.parts.entries ≤ length old.parts.entries
  fewer_come : (queues : List Queue) (q : Queue) → reach queues new.parts.entries q ≤ reach queues old.parts.entries q
  at_home : (name : List ℕ) → count_by (is_home name) new.parts.entries ≤ count_by (is_home name) old.parts.entries
  unnamed : (name : FileName) → find (λ e. same_file_name e.file name) old.parts.entries ≡ None → find (λ e. same_file_name e.file name) new.parts.entries ≡ None
  without_run : (name : List ℕ) → find (runs_for name) old.parts.entries ≡ None → find (runs_for name) new.parts.entries ≡ None
  with_file : (entry : Entry) → All (NamesItsFile entry) old.parts.entries → All (NamesItsFile entry) new.parts.entries
  waits : (number : ℕ) → IsWaiting number old.parts.entries → IsWaiting number new.parts.entries
  on_nodes : (lost : List (List ℕ)) → count_by (is_run_on_one lost) new.parts.entries ≤ count_by (is_run_on_one lost) old.parts.entries

module _ (old new : Image) (left : IsLeft old new) where
  of_files : (P : Kept → Type 0) → P (record old.spool { counts = new.spool.counts }) → P new.spool
  of_files P h = subst P (sym left.files) h

  of_tables : (P : Tables → Type 0) → P (record old.parts { entries = new.parts.entries; timers = new.parts.timers; spare_runs = new.parts.spare_runs; spare_timers = new.parts.spare_timers }) → P new.parts
  of_tables P h = subst P (sym left.tables) h

  places_for_stay : (home : List ℕ) (n m : ℕ) → m ≤ n → HavePlacesFor home n old.parts → HavePlacesFor home m new.parts
  places_for_stay home n m less has =
      of_tables (HavePlacesFor home m) (λ place q within is. omega (arith, less, has place q within is, left.fewer_come old.parts.queues (get_or old.parts.queues place q)))

  can_put_still : (queue : Queue) → CanPut queue old.parts → CanPut queue new.parts
  can_put_still queue can = of_tables (CanPut queue) (record {
    room = can.room;
    places = λ place q within is. omega (arith, can.places place q within is, left.fewer_come old.parts.queues (get_or old.parts.queues place q), left.at_home queue.name);
    row = λ absent. omega (arith, can.row absent, left.fewer_come old.parts.queues queue, left.at_home queue.name);
  })

  room_stays : (name : FileName) (bytes : List ℕ) → HasRoomFor old.spool name bytes → HasRoomFor new.spool name bytes
  room_stays name bytes h = of_files (λ k. HasRoomFor k name bytes) (record { there = h.there; room = h.room; fits = h.fits })

  timers_stay : (lost : List (List ℕ)) → HasTimersFor lost old.parts → HasTimersFor lost new.parts
  timers_stay lost has = omega (arith, has, left.on_nodes lost, left.timers)

  ready_left : (change : Change) → IsReady old change → IsReady new change
  ready_left (NewFile name bytes) h = record {
    room = of_files (λ k. 0 < k.spare) h.room;
    absent = of_files (λ k. file_named name k.files ≡ None) h.absent;
    fits = of_files (λ k. is_spool_full name (length bytes.items) k.files ≡ false) h.fits;
  }
  ready_left (MoreBytes name bytes) h = room_stays name bytes.now h
  ready_left (MoreLines name bytes) h = room_stays name bytes.items h
  ready_left (RemoveFile name) h = record { there = of_files (λ k. IsSome (file_named name k.files)) h.there; unnamed = left.unnamed name h.unnamed }
  ready_left (NewForm form) h = record { room = of_tables (λ t. 0 < t.spare_forms) h.room; free = of_tables (λ t. is_form_taken t.forms form ≡ false) h.free }
  ready_left (RemoveForm name) h = tt
  ready_left (NewCharacteristic characteristic) h = record {
    room = of_tables (λ t. 0 < t.spare_characteristics) h.room;
    small = h.small;
    free = of_tables (λ t. is_characteristic_taken t.characteristics characteristic ≡ false) h.free;
  }
  ready_left (RemoveCharacteristic name) h = tt
  ready_left (NewEntry entry) h = record {
    number = h.number ∙ left.next;
    idle = h.idle;
    next = omega (arith, h.next, left.next);
    few = omega (arith, h.few, left.fewer);
    room = of_tables (λ t. 0 < t.spare_entries) h.room;
    places = places_for_stay entry.home 1 1 (omega arith) h.places;
    timer = omega (arith, h.timer, left.timers);
    file = of_files (λ k. IsSome (file_named entry.file k.files)) h.file;
  }
  ready_left (PutQueue queue) h = can_put_still queue h
  ready_left (SetQueue name settings state) h = tt
  ready_left (StopQueue name how) h = tt
  ready_left (CutShort entry fate) h = tt
  ready_left (RemoveQueue name) h = left.without_run name h
  ready_left (Merge to from) h = places_for_stay to (count_by (is_home from) old.parts.entries) (count_by (is_home from) new.parts.entries) (left.at_home from) h
  ready_left (ReplaceEntry entry) h = record { idle = h.idle; waits = left.waits entry.number h.waits; places = places_for_stay entry.home 1 1 (omega arith) h.places; timer = omega (arith, h.timer, left.timers); file = left.with_file entry h.file }
  ready_left (RemoveEntry entry) h = tt
  ready_left (Report run report) h = omega (arith, h, left.timers)
  ready_left NodeUp h = tt
  ready_left (LoseNodes nodes) h = timers_stay nodes.now h
  ready_left (TakeOver epoch gone up may) h = timers_stay gone.now h
  ready_left Tick h = tt

-- room for runs alone
pub ready_with_runs : (old new : Image) (n : ℕ) → new ≡ record old { parts = record old.parts { spare_runs = n } } → (change : Change) → IsReady old change → IsReady new change
ready_with_runs old new n is change h =
    subst (λ (i : Image). IsReady i change) (sym is) (ready_left old (record old { parts = record old.parts { spare_runs = n } })
    (record { files = refl; tables = refl; next = refl; timers = omega arith; fewer = omega arith; fewer_come = λ qs q. omega arith; at_home = λ name. omega arith; unnamed = λ name none. none; without_run = λ name none. none; with_file = λ entry all. all; waits = λ number waits. waits; on_nodes = λ lost. omega arith }) change h)

-- what the moment finds
module _ (now : ℕ) (old new : Image) (rows : system_of new ≡ found now (system_of old)) (files : new.spool ≡ record old.spool { counts = new.spool.counts })
    (tables : new.parts ≡ record old.parts { entries = new.parts.entries; timers = new.parts.timers; spare_runs = new.parts.spare_runs; spare_timers = new.parts.spare_timers }) (room : old.parts.spare_timers ≤ new.parts.spare_timers) where
  entries_are : new.parts.entries ≡ map (entry_at now) (filter (λ e. not (is_over now e.state)) old.parts.entries)
  unfolding system_of
  entries_are = ap (λ (s : System). s.entries) rows

  same_next : old.next_entry ≡ new.next_entry
  unfolding system_of
  same_next = sym (ap (λ (s : System). s.next_entry) rows)

  no_more : length new.parts.entries ≤ length old.parts.entries
  no_more = omega (
    arith,
    ap length entries_are,
    length-map (filter (λ (e : Entry). not (is_over now e.state)) old.parts.entries) (entry_at now),
    length-filter_both (λ (e : Entry). is_over now e.state) (λ (e : Entry). not (is_over now e.state)) (λ e. refl) old.parts.entries,
  )

  abbrev kept : List Entry
  kept = filter (λ e. not (is_over now e.state)) old.parts.entries

  fewer_come_found : (qs : List Queue) (q : Queue) → reach qs new.parts.entries q ≤ reach qs old.parts.entries q
  fewer_come_found qs q =
      let is = ap (λ (es : List Entry). reach qs es q) entries_are in
      let mapped : reach qs (map (entry_at now) kept) q ≡ reach qs kept q = count_map (may_come qs q) (entry_at now) kept in
      omega (arith, is, mapped, count_filter_le (may_come qs q) (λ (e : Entry). not (is_over now e.state)) old.parts.entries)

  fewer_home_found : (name : List ℕ) → count_by (is_home name) new.parts.entries ≤ count_by (is_home name) old.parts.entries
  fewer_home_found name =
      let is = ap (λ (es : List Entry). count_by (is_home name) es) entries_are in
      let mapped : count_by (is_home name) (map (entry_at now) kept) ≡ count_by (is_home name) kept = count_map (is_home name) (entry_at now) kept in
      omega (arith, is, mapped, count_filter_le (is_home name) (λ (e : Entry). not (is_over now e.state)) old.parts.entries)

  fewer_on_nodes_found : (lost : List (List ℕ)) → count_by (is_run_on_one lost) new.parts.entries ≤ count_by (is_run_on_one lost) old.parts.entries
  fewer_on_nodes_found lost =
      let is = ap (λ (es : List Entry). count_by (is_run_on_one lost) es) entries_are in
      omega (arith, is, fewer_on_nodes now lost old.parts.entries)

  pub ready_found : (change : Change) → IsReady old change → IsReady new change
  ready_found = ready_left old new (record {
    files = files;
    tables = tables;
    next = same_next;
    timers = room;
    fewer = no_more;
    fewer_come = fewer_come_found;
    at_home = fewer_home_found;
    unnamed = λ name none. subst (λ (es : List Entry). find (λ e. same_file_name e.file name) es ≡ None) (sym entries_are) (unnamed_found name now old.parts.entries none);
    without_run = λ name none. subst (λ (es : List Entry). find (runs_for name) es ≡ None) (sym entries_are) (no_run_found name now old.parts.entries none);
    with_file = λ entry all. subst (All (NamesItsFile entry)) (sym entries_are) (file_found entry now old.parts.entries all);
    waits = λ number waits. subst (IsWaiting number) (sym entries_are) (waiting_found number now old.parts.entries waits);
    on_nodes = fewer_on_nodes_found;
  })
