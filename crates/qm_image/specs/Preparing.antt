-- Changes that are decided, and for which memory is taken.
use Rattle.std.specs.Prelude.{◌≡◌, ◌<◌, ◌≤◌, ◌+◌, ◌^◌, ℕ, true, false, List, [], ◌∷◌, ◌++◌, length, count_by, find, All, Option, None, Some, IfSome, IsSome, vec_capacity}
use Rattle.std.specs.Option.{option_map_or, option_and_then}
use Rattle.qm_model.specs.Common.{Entry, FileName, Characteristic, Form, ENTRIES_LIMIT, LAST_CHARACTERISTIC, Queue, QueueState, Submitted, EntryDeleted, System, at_moment, completed, IsConsistent, due, entry_set_to, entry_numbered, file_named, same_file_name, is_waiting, run_of, Accepted, replied, replied_with_queue, run_reported, settled, with_entry, with_queue, stopped_when_idle, queue_stopped, entry_aborting}
use Rattle.qm_model.specs.Appending.{appended, is_spool_full}
use Rattle.qm_model.specs.Characteristics.{is_characteristic_taken, characteristic_defined, characteristic_deleted}
use Rattle.qm_model.specs.Filing.{dropped}
use Rattle.qm_model.specs.Forms.{is_form_taken, form_defined, form_deleted}
use Rattle.qm_model.specs.Merging.{merged}
use Rattle.qm_model.specs.Nodes.{ticked, node_up, nodes_lost, taken_over}
use Rattle.qm_model.specs.Queues.{queue_deleted, runs_for}
use Rattle.qm_tables.specs.declared.queues.settings.Settings.{Settings}
use Rattle.qm_tables.specs.Queues.{with_queue_put}
use Rattle.qm_tables.specs.Settings.{with_settings_and_state}
use Rattle.qm_parts.specs.Mirror.{run_of_entry}
use Rattle.qm_parts.specs.Rooms.{CanPut, HavePlacesFor, is_home}
use Rattle.qm_tables.specs.Spool.{HasRoomFor}
use Rattle.qm_image.specs.declared.image.Image.{Image}
use Rattle.qm_image.specs.declared.prepared.Prepared.{Prepared}
use Rattle.qm_image.specs.declared.prepared.Change.{Change}
use Rattle.qm_image.specs.declared.prepared.Change.TheVariants.{NewFile, MoreBytes, MoreLines, RemoveFile, NewForm, RemoveForm, NewCharacteristic, RemoveCharacteristic, NewEntry, PutQueue, SetQueue, StopQueue, CutShort, RemoveQueue, Merge, ReplaceEntry, RemoveEntry, Report, NodeUp, LoseNodes, TakeOver, Tick}
use Rattle.qm_rules.specs.Ending.{report_of}
use Rattle.qm_image.specs.Image.{system_of}
use Rattle.qm_image.specs.Losing.{HasTimersFor}

-- the entry stands behind the others, and its number isn't given again
abbrev pub entered : System → Entry → Accepted
entered s entry = record {
  system = record s { entries = s.entries ++ entry ∷ []; next_entry = s.next_entry + 1 };
  reply = record { act = Submitted entry.name entry.home entry.number entry.state; started = [] };
}

-- the queue stands in its place by name
abbrev pub queue_put : System → Queue → Accepted
queue_put s queue = replied_with_queue (record s { queues = with_queue_put queue s.queues }) queue.name

-- the queue has the settings that are given, and the state where one is
abbrev pub queue_changed : System → List ℕ → Settings → Option QueueState → Accepted
queue_changed s name settings state = replied_with_queue (record s { queues = with_queue name (with_settings_and_state settings state) s.queues }) name

-- this is left of the entry, or it goes
abbrev pub with_left : ℕ → Option Entry → System → System
with_left number left s = record s { entries = with_entry number (λ e. left) s.entries }

-- the entry goes
abbrev pub entry_removed : System → ℕ → Accepted
entry_removed s number = replied (with_left number None s) (EntryDeleted number)

-- the entry takes the place of the one of its number
abbrev pub entry_replaced : System → Entry → Accepted
entry_replaced s entry = entry_set_to s entry.number entry

-- what the change makes of the system that the acting moment finds, for the node that serves it; queues that are stopping
-- haven't been stopped then, and no job is started
abbrev pub outcome_of : Change → ℕ → List ℕ → System → Accepted
outcome_of (NewFile name bytes) now node s = appended s name bytes.items
outcome_of (MoreBytes name bytes) now node s = appended s name bytes.now
outcome_of (MoreLines name bytes) now node s = appended s name bytes.items
outcome_of (RemoveFile name) now node s = dropped s name
outcome_of (NewForm form) now node s = form_defined s form
outcome_of (RemoveForm name) now node s = form_deleted s name
outcome_of (NewCharacteristic characteristic) now node s = characteristic_defined s characteristic
outcome_of (RemoveCharacteristic name) now node s = characteristic_deleted s name
outcome_of (NewEntry entry) now node s = entered s entry
outcome_of (PutQueue queue) now node s = queue_put s queue
outcome_of (SetQueue name settings state) now node s = queue_changed s name settings state
outcome_of (StopQueue name how) now node s = queue_stopped s name how
outcome_of (CutShort entry fate) now node s = entry_aborting s fate entry
outcome_of (RemoveQueue name) now node s = queue_deleted s name
outcome_of (Merge to from) now node s = merged s to from
outcome_of (ReplaceEntry entry) now node s = entry_replaced s entry
outcome_of (RemoveEntry entry) now node s = entry_removed s entry
outcome_of (Report run report) now node s = run_reported s now node run (report_of report)
outcome_of NodeUp now node s = node_up s node
outcome_of (LoseNodes nodes) now node s = nodes_lost s now node nodes.now
outcome_of (TakeOver epoch gone up may) now node s = taken_over s now node epoch gone.now up.now may
outcome_of Tick now node s = ticked s

-- the system as the acting moment finds it
abbrev pub found : ℕ → System → System
found now s = due now (at_moment now s)

-- what is prepared makes of a system, before queues that are stopping are stopped and jobs are started
unfoldable pub changed : Prepared → System → Accepted
changed prepared s = outcome_of prepared.change prepared.at prepared.node (found prepared.at s)

-- what is prepared makes of a system
unfoldable pub made : Prepared → System → Accepted
made prepared s = completed (changed prepared s)

-- there is room for a new file of these bytes, and it passes no limit
pub record CanInsert (image : Image) (name : FileName) (bytes : List ℕ) : Type 0 where
  pub room : 0 < image.spool.spare
  pub absent : file_named name image.spool.files ≡ None
  pub fits : is_spool_full name (length bytes) image.spool.files ≡ false

-- there is room for the bytes in the file, and they pass no limit
abbrev pub CanAppend : Image → FileName → List ℕ → Type 0
CanAppend image name bytes = HasRoomFor image.spool name bytes

-- the file is there, and no entry names it
pub record CanDrop (image : Image) (name : FileName) : Type 0 where
  pub there : IsSome (file_named name image.spool.files)
  pub unnamed : find (λ e. same_file_name e.file name) image.parts.entries ≡ None

-- there is room for one form more, and no form has its name or its number
pub record CanDefineForm (image : Image) (form : Form) : Type 0 where
  pub room : 0 < image.parts.spare_forms
  pub free : is_form_taken image.parts.forms form ≡ false

-- there is room for one characteristic more, its number isn't too great, and none has its name or its number
pub record CanDefineCharacteristic (image : Image) (characteristic : Characteristic) : Type 0 where
  pub room : 0 < image.parts.spare_characteristics
  pub small : characteristic.number ≤ LAST_CHARACTERISTIC
  pub free : is_characteristic_taken image.parts.characteristics characteristic ≡ false

-- there is room for the entry, in the rows too, and for a timer, the entry has the next number and no run, and its file is there
pub record IsNewEntry (image : Image) (entry : Entry) : Type 0 where
  pub number : entry.number ≡ image.next_entry
  pub idle : run_of entry.state ≡ None
  pub next : image.next_entry + 1 < 2 ^ 32
  pub few : length image.parts.entries < ENTRIES_LIMIT
  pub room : 0 < image.parts.spare_entries
  pub places : HavePlacesFor entry.home 1 image.parts
  pub timer : 0 < image.parts.spare_timers
  pub file : IsSome (file_named entry.file image.spool.files)

-- the entry of a number is there, and waits: for its start, for its release or for its moment
abbrev pub IsWaiting : ℕ → List Entry → Type 0
IsWaiting number entries = option_map_or (λ e. is_waiting e.state) (entry_numbered number entries) false ≡ true

-- the entry has no run, and the one of its number is there, waits and names the same file; and there is room for it in the rows
-- of the queues that it may come to, and for a timer
pub record CanReplace (image : Image) (entry : Entry) : Type 0 where
  pub idle : run_of entry.state ≡ None
  pub waits : IsWaiting entry.number image.parts.entries
  pub places : HavePlacesFor entry.home 1 image.parts
  pub timer : 0 < image.parts.spare_timers
  pub file : All (λ e. e.number ≡ entry.number → e.file ≡ entry.file) image.parts.entries

-- how many jobs start behind a change of the system that the moment finds
abbrev pub starts_behind : Change → ℕ → List ℕ → System → ℕ
starts_behind change now node s = length (settled (stopped_when_idle (outcome_of change now node (found now s)).system)).started

-- at most so many jobs start behind the change, at each moment and for each node
abbrev pub StartAtMost : ℕ → Change → System → Type 0
StartAtMost most change s = (now : ℕ) (node : List ℕ) → starts_behind change now node s ≤ most

-- The change can be made on the image: for what comes there is room, in the rows of the queues too, a new form or characteristic
-- has a name and a number of its own, a new entry has the next number and no run, its file is there and may be named once more,
-- an entry that is changed waits, has no run then and keeps its file, no entry names a file that goes, and no job runs for a
-- queue that goes. For what may wait for a moment, or be kept until one, there is room for a timer, and so there is for each job
-- that runs on a node that is lost.
abbrev pub IsReady : Image → Change → Type 0
IsReady image (NewFile name bytes) = CanInsert image name bytes.items
IsReady image (MoreBytes name bytes) = CanAppend image name bytes.now
IsReady image (MoreLines name bytes) = CanAppend image name bytes.items
IsReady image (RemoveFile name) = CanDrop image name
IsReady image (NewForm form) = CanDefineForm image form
IsReady image (RemoveForm name) = Unit {0}
IsReady image (NewCharacteristic characteristic) = CanDefineCharacteristic image characteristic
IsReady image (RemoveCharacteristic name) = Unit {0}
IsReady image (NewEntry entry) = IsNewEntry image entry
IsReady image (PutQueue queue) = CanPut queue image.parts
IsReady image (SetQueue name settings state) = Unit {0}
IsReady image (StopQueue name how) = Unit {0}
IsReady image (CutShort entry fate) = Unit {0}
IsReady image (RemoveQueue name) = find (runs_for name) image.parts.entries ≡ None
IsReady image (Merge to from) = HavePlacesFor to (count_by (is_home from) image.parts.entries) image.parts
IsReady image (ReplaceEntry entry) = CanReplace image entry
IsReady image (RemoveEntry entry) = Unit {0}
IsReady image (Report run report) = 0 < image.parts.spare_timers
IsReady image NodeUp = Unit {0}
IsReady image (LoseNodes nodes) = HasTimersFor nodes.now image.parts
IsReady image (TakeOver epoch gone up may) = HasTimersFor gone.now image.parts
IsReady image Tick = Unit {0}

-- What is prepared can be made on the image: the change can, it leaves a consistent system before any job is started, and there
-- is room for the jobs that start behind it.
pub record IsPrepared (image : Image) (prepared : Prepared) : Type 0 where
  pub ready : IsReady image prepared.change
  pub sound : IsConsistent (stopped_when_idle (changed prepared (system_of image)).system)
  pub none_yet : prepared.started.items ≡ []
  pub started_room : length (made prepared (system_of image)).reply.started ≤ vec_capacity prepared.started
  pub run_room : length (made prepared (system_of image)).reply.started ≤ image.parts.spare_runs

-- at most so many jobs start where what is prepared is made, on each image where it can be
abbrev pub AreStartsAtMost : ℕ → Prepared → Type 0
AreStartsAtMost most prepared = (image : Image) → IsPrepared image prepared → length (made prepared (system_of image)).reply.started ≤ most

-- what is left of the entry of a number, which is there: it names the same file, and has no run or the one that it had
pub record IsLeftOf (left : Entry) (number : ℕ) (old : Option Entry) : Type 0 where
  pub there : IsSome old
  pub number_stays : left.number ≡ number
  pub file_stays : IfSome old (λ e. e.file ≡ left.file)
  pub run_stays : IfSome (run_of_entry left) (λ run. option_and_then run_of_entry old ≡ Some run)
