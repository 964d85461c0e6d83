-- The one spelling of each record.
use Rattle.std.specs.Prelude.{◌≡◌, ℕ, ◌<◌, ◌^◌, Bool, true, false, List, [], ◌∷◌, ◌++◌, length, Option, None, Some}
use Rattle.qm_model.specs.Common.{Request, FileName, EntryChange, Job, NameOrNumber, Name, Number, JobKind, JobRetain, QueueKind, QueueState, QueueRetain, Queue, QueueChange, NewQueue, StopMode, Form, Shape, Characteristic, Node, Record, Body}
use Rattle.qm_kinds.specs.declared.request.Request.TheVariants as ask
use Rattle.qm_kinds.specs.declared.entry.JobKind.TheVariants as job
use Rattle.qm_kinds.specs.declared.entry.JobRetain.TheVariants as retain
use Rattle.qm_kinds.specs.declared.queue.QueueKind.TheVariants as kind
use Rattle.qm_kinds.specs.declared.queue.QueueState.TheVariants as state
use Rattle.qm_kinds.specs.declared.queue.QueueRetain.TheVariants as keep
use Rattle.qm_kinds.specs.declared.request.StopMode.TheVariants as stop
use Rattle.qm_bytes.specs.Spelling.{low_first, fields, byte, truth, optional, list, long_bytes, short_bytes, file_name, set, moment, IsName, IsMark, IsMoment, AreLongBytes, IsFileName, IsSet, IsList, AllOf}
use Rattle.qm_kinds.specs.declared.record.Body.TheVariants as body
use Rattle.qm_kinds.specs.declared.request_kind.RequestKind.TheVariants as requests
use Rattle.qm_record.specs.declared.kind.RecordKind.{RecordKind}
use Rattle.qm_record.specs.declared.kind.RecordKind.TheVariants as record_kind
use Rattle.qm_record.specs.Kinds.{number_of}

-- ---- codes

abbrev pub job_kind_code : JobKind → ℕ
job_kind_code job.Batch = 1
job_kind_code job.Print = 2

abbrev pub queue_kind_code : QueueKind → ℕ
queue_kind_code kind.Batch = 1
queue_kind_code kind.Print = 2
queue_kind_code kind.GenericBatch = 3
queue_kind_code kind.GenericPrint = 4

abbrev pub queue_state_code : QueueState → ℕ
queue_state_code state.Stopped = 1
queue_state_code state.Started = 2
queue_state_code state.Paused = 3
queue_state_code state.Stopping = 4

abbrev pub queue_retain_code : QueueRetain → ℕ
queue_retain_code keep.Nothing = 0
queue_retain_code keep.Failed = 1
queue_retain_code keep.All = 2

abbrev pub stop_mode_code : StopMode → ℕ
stop_mode_code stop.Pause = 1
stop_mode_code stop.Next = 2
stop_mode_code stop.Reset = 3

-- ---- fields

abbrev pub queue_retain : QueueRetain → List ℕ
queue_retain r = byte (queue_retain_code r)

-- the least and the greatest size of a job, in blocks
abbrev pub limits : ℕ × ℕ → List ℕ
limits l = low_first 4 l.0 ++ low_first 4 l.1

-- a job is kept as its queue says, always, after a failure, or until a moment
abbrev pub job_retain : JobRetain → List ℕ
job_retain retain.Default = 0 ∷ []
job_retain retain.Always = 1 ∷ []
job_retain retain.Failed = 2 ∷ []
job_retain (retain.Until m) = 3 ∷ moment m

abbrev pub name_or_number : NameOrNumber → List ℕ
name_or_number (Name name) = 0 ∷ short_bytes name
name_or_number (Number n) = 1 ∷ low_first 2 n

abbrev pub node : Node → List ℕ
node n = short_bytes n.name ++ truth n.up

abbrev pub shape : Shape → List ℕ
shape s = fields (byte s.length ∷ byte s.width ∷ byte s.top ∷ byte s.bottom ∷ byte s.left ∷ byte s.right ∷ truth s.wrap ∷ [])

abbrev pub form : Form → List ℕ
form f = fields (short_bytes f.name ∷ low_first 2 f.number ∷ short_bytes f.stock ∷ shape f.shape ∷ [])

abbrev pub characteristic : Characteristic → List ℕ
characteristic c = short_bytes c.name ++ byte c.number

abbrev pub queue : Queue → List ℕ
queue q = fields (
    short_bytes q.name ∷ byte (queue_kind_code q.kind) ∷ byte (queue_state_code q.state) ∷ optional short_bytes q.node ∷
    optional short_bytes q.device ∷ byte q.limit ∷ set q.characteristics ∷ optional short_bytes q.mounted ∷
    low_first 4 q.lower ∷ low_first 4 q.upper ∷ truth q.by_size ∷ byte (queue_retain_code q.retain) ∷
    list short_bytes q.targets ∷ [])

-- the settings of a queue that are given
abbrev pub queue_change : QueueChange → List ℕ
queue_change c = fields (
    optional byte c.limit ∷ optional (list name_or_number) c.characteristics ∷ optional name_or_number c.form ∷
    optional limits c.blocks ∷ optional truth c.by_size ∷ optional queue_retain c.retain ∷ [])

-- a queue that is made
abbrev pub new_queue : NewQueue → List ℕ
new_queue n = fields (
    short_bytes n.name ∷ byte (queue_kind_code n.kind) ∷ optional short_bytes n.node ∷ optional short_bytes n.device ∷
    list short_bytes n.targets ∷ queue_change n.change ∷ truth n.start ∷ [])

-- what is changed of an entry
abbrev pub entry_change : EntryChange → List ℕ
entry_change c = fields (
    truth c.release ∷ truth c.hold ∷ optional (optional moment) c.after ∷ optional byte c.priority ∷ optional short_bytes c.name ∷
    optional (list name_or_number) c.characteristics ∷ optional name_or_number c.form ∷ optional short_bytes c.queue ∷
    optional truth c.restart ∷ optional job_retain c.retain ∷ [])

-- ---- records

-- the fields of a job, in their order
abbrev pub job_text : Job → List ℕ
job_text j = fields (
    short_bytes j.user ∷ byte (job_kind_code j.kind) ∷ short_bytes j.queue ∷ file_name j.file ∷ short_bytes j.name ∷
    byte j.priority ∷ optional moment j.after ∷ truth j.hold ∷ job_retain j.retain ∷ truth j.restart ∷
    list name_or_number j.characteristics ∷ optional name_or_number j.form ∷ byte j.copies ∷ truth j.flag ∷ [])

-- what a system has once
abbrev pub head : List Node → List (List ℕ) → ℕ → ℕ → ℕ → List ℕ
head nodes may next_entry next_run last = fields (
    list node nodes ∷ list short_bytes may ∷ low_first 4 next_entry ∷ low_first 8 next_run ∷ moment last ∷ [])

-- the queue of a job that is cut short, its entry where one is given, and whether it is queued again
abbrev pub abort : List ℕ → Option ℕ → Bool → List ℕ
abort queue_name entry requeue = fields (short_bytes queue_name ∷ optional (low_first 4) entry ∷ truth requeue ∷ [])

-- the epoch of a takeover, the nodes whose runs are lost, those that are up, and those that may be manager
abbrev pub took : ℕ → List (List ℕ) → List (List ℕ) → List (List ℕ) → List ℕ
took epoch gone up may = fields (low_first 8 epoch ∷ list short_bytes gone ∷ list short_bytes up ∷ list short_bytes may ∷ [])

-- a file, and the bytes that are added to it
abbrev pub append_text : FileName → List ℕ → List ℕ
append_text file bytes = fields (file_name file ∷ long_bytes bytes ∷ [])

-- a file, and how many lines it is to get
abbrev pub fill_text : FileName → ℕ → List ℕ
fill_text file lines = file_name file ++ low_first 2 lines

-- a queue, and the settings that are given
abbrev pub settings_text : List ℕ → QueueChange → List ℕ
settings_text name change = short_bytes name ++ queue_change change

-- a queue, and how it is stopped
abbrev pub stop_text : List ℕ → StopMode → List ℕ
stop_text name how = short_bytes name ++ byte (stop_mode_code how)

-- the queue to which jobs are moved, and the one from which they come
abbrev pub moved_text : List ℕ → List ℕ → List ℕ
moved_text to from = short_bytes to ++ short_bytes from

-- an entry, and what is changed of it
abbrev pub changed_text : ℕ → EntryChange → List ℕ
changed_text entry change = low_first 4 entry ++ entry_change change

-- a run, and its mark
abbrev pub run_mark_text : ℕ → List ℕ → List ℕ
run_mark_text run value = low_first 8 run ++ short_bytes value

-- a run, and the status with which it ended
abbrev pub done_text : ℕ → ℕ → List ℕ
done_text run status = low_first 8 run ++ low_first 4 status

-- The kind and the fields of a request: each has a spelling.
abbrev pub request_parts : Request → Option (RecordKind × List ℕ)
request_parts (ask.Append file bytes) = Some ((record_kind.Request requests.Append), append_text file bytes)
request_parts (ask.Fill file lines) = Some ((record_kind.Request requests.Fill), fill_text file lines)
request_parts (ask.Drop file) = Some ((record_kind.Request requests.Drop), file_name file)
request_parts (ask.DefineForm f) = Some ((record_kind.Request requests.DefineForm), form f)
request_parts (ask.DeleteForm name) = Some ((record_kind.Request requests.DeleteForm), short_bytes name)
request_parts (ask.DefineCharacteristic c) = Some ((record_kind.Request requests.DefineCharacteristic), characteristic c)
request_parts (ask.DeleteCharacteristic name) = Some ((record_kind.Request requests.DeleteCharacteristic), short_bytes name)
request_parts (ask.InitializeQueue new) = Some ((record_kind.Request requests.InitializeQueue), new_queue new)
request_parts (ask.SetQueue name change) = Some ((record_kind.Request requests.SetQueue), settings_text name change)
request_parts (ask.StartQueue name change) = Some ((record_kind.Request requests.StartQueue), settings_text name change)
request_parts (ask.StopQueue name how) = Some ((record_kind.Request requests.StopQueue), stop_text name how)
request_parts (ask.AbortJob queue_name entry requeue) = Some ((record_kind.Request requests.AbortJob), abort queue_name entry requeue)
request_parts (ask.DeleteQueue name) = Some ((record_kind.Request requests.DeleteQueue), short_bytes name)
request_parts (ask.Merge to from) = Some ((record_kind.Request requests.Merge), moved_text to from)
request_parts (ask.Submit j) = Some ((record_kind.Request requests.Submit), job_text j)
request_parts (ask.SetEntry entry change) = Some ((record_kind.Request requests.SetEntry), changed_text entry change)
request_parts (ask.DeleteEntry entry) = Some ((record_kind.Request requests.DeleteEntry), low_first 4 entry)
request_parts (ask.Mark run value) = Some (record_kind.Mark, run_mark_text run value)
request_parts (ask.Done run status) = Some (record_kind.Done, done_text run status)
request_parts ask.Tick = Some (record_kind.Tick, [])
request_parts ask.NodeUp = Some (record_kind.NodeUp, [])
request_parts (ask.NodeLost nodes) = Some (record_kind.NodeLost, list short_bytes nodes)
request_parts (ask.Took epoch gone up may) = Some (record_kind.Took, took epoch gone up may)

-- the same of each record
abbrev pub body_parts : Body → Option (RecordKind × List ℕ)
body_parts (body.Ask r) = request_parts r
body_parts (body.Head nodes may next_entry next_run last) = Some (record_kind.Head, head nodes may next_entry next_run last)
body_parts (body.Form f) = Some (record_kind.Form, form f)
body_parts (body.Characteristic c) = None
body_parts (body.File f) = None
body_parts (body.Queue q) = Some (record_kind.Queue, queue q)
body_parts (body.Entry e) = None

-- the version, the number, the moment and the node
abbrev pub front : RecordKind → ℕ → ℕ → List ℕ
front kind m n = 1 ∷ number_of kind ∷ (moment m ++ byte n)

-- the fields alone
abbrev pub fields_in : Option (RecordKind × List ℕ) → List ℕ
fields_in None = []
fields_in (Some parts) = parts.1

-- these, and the fields behind them; nothing for what isn't spelled so far
abbrev pub text_of : ℕ → ℕ → Option (RecordKind × List ℕ) → List ℕ
text_of m n None = []
text_of m n (Some parts) = front parts.0 m n ++ parts.1

abbrev pub record_text : Record → List ℕ
record_text r = text_of r.moment r.node (body_parts r.body)

-- ---- what has a spelling

abbrev pub IsByte : ℕ → Type 0
IsByte n = n < 2 ^ 8

abbrev pub RetainFits : JobRetain → Type 0
RetainFits retain.Default = Unit {0}
RetainFits retain.Always = Unit {0}
RetainFits retain.Failed = Unit {0}
RetainFits (retain.Until m) = IsMoment m

abbrev pub NameOrNumberFits : NameOrNumber → Type 0
NameOrNumberFits (Name name) = IsName name
NameOrNumberFits (Number n) = n < 2 ^ 16

abbrev pub NodeFits : Node → Type 0
NodeFits n = IsName n.name

pub record ShapeFits (s : Shape) : Type 0 where
  pub length_fits : IsByte s.length
  pub width_fits : IsByte s.width
  pub top_fits : IsByte s.top
  pub bottom_fits : IsByte s.bottom
  pub left_fits : IsByte s.left
  pub right_fits : IsByte s.right

pub record FormFits (f : Form) : Type 0 where
  pub name_fits : IsName f.name
  pub number_fits : f.number < 2 ^ 16
  pub stock_fits : IsName f.stock
  pub shape_fits : ShapeFits f.shape

pub record CharacteristicFits (c : Characteristic) : Type 0 where
  pub name_fits : IsName c.name
  pub number_fits : IsByte c.number

pub record QueueFits (q : Queue) : Type 0 where
  pub name_fits : IsName q.name
  pub node_fits : AllOf IsName q.node
  pub device_fits : AllOf IsName q.device
  pub limit_fits : IsByte q.limit
  pub characteristics_fit : IsSet q.characteristics
  pub mounted_fits : AllOf IsName q.mounted
  pub lower_fits : q.lower < 2 ^ 32
  pub upper_fits : q.upper < 2 ^ 32
  pub targets_fit : IsList IsName q.targets

pub record JobFits (j : Job) : Type 0 where
  pub user_fits : IsName j.user
  pub queue_fits : IsName j.queue
  pub file_fits : IsFileName j.file
  pub name_fits : IsName j.name
  pub priority_fits : IsByte j.priority
  pub after_fits : AllOf IsMoment j.after
  pub retain_fits : RetainFits j.retain
  pub characteristics_fit : IsList NameOrNumberFits j.characteristics
  pub form_fits : AllOf NameOrNumberFits j.form
  pub copies_fits : IsByte j.copies

abbrev pub LimitsFit : ℕ × ℕ → Type 0
LimitsFit l = (l.0 < 2 ^ 32) × (l.1 < 2 ^ 32)

pub record ChangeFits (c : QueueChange) : Type 0 where
  pub limit_fits : AllOf IsByte c.limit
  pub characteristics_fit : AllOf (IsList NameOrNumberFits) c.characteristics
  pub form_fits : AllOf NameOrNumberFits c.form
  pub blocks_fit : AllOf LimitsFit c.blocks

pub record NewQueueFits (n : NewQueue) : Type 0 where
  pub name_fits : IsName n.name
  pub node_fits : AllOf IsName n.node
  pub device_fits : AllOf IsName n.device
  pub targets_fit : IsList IsName n.targets
  pub change_fits : ChangeFits n.change

pub record EntryChangeFits (c : EntryChange) : Type 0 where
  pub after_fits : AllOf (AllOf IsMoment) c.after
  pub priority_fits : AllOf IsByte c.priority
  pub name_fits : AllOf IsName c.name
  pub characteristics_fit : AllOf (IsList NameOrNumberFits) c.characteristics
  pub form_fits : AllOf NameOrNumberFits c.form
  pub queue_fits : AllOf IsName c.queue
  pub retain_fits : AllOf RetainFits c.retain

abbrev pub IsEntryNumber : ℕ → Type 0
IsEntryNumber n = n < 2 ^ 32

abbrev pub RequestFits : Request → Type 0
RequestFits (ask.Append file bytes) = IsFileName file × AreLongBytes bytes
RequestFits (ask.Fill file lines) = IsFileName file × (lines < 2 ^ 16)
RequestFits (ask.Drop file) = IsFileName file
RequestFits (ask.DefineForm f) = FormFits f
RequestFits (ask.DeleteForm name) = IsName name
RequestFits (ask.DefineCharacteristic c) = CharacteristicFits c
RequestFits (ask.DeleteCharacteristic name) = IsName name
RequestFits (ask.InitializeQueue new) = NewQueueFits new
RequestFits (ask.SetQueue name change) = IsName name × ChangeFits change
RequestFits (ask.StartQueue name change) = IsName name × ChangeFits change
RequestFits (ask.StopQueue name how) = IsName name
RequestFits (ask.AbortJob queue_name entry requeue) = IsName queue_name × AllOf IsEntryNumber entry
RequestFits (ask.DeleteQueue name) = IsName name
RequestFits (ask.Merge to from) = IsName to × IsName from
RequestFits (ask.Submit j) = JobFits j
RequestFits (ask.SetEntry entry change) = IsEntryNumber entry × EntryChangeFits change
RequestFits (ask.DeleteEntry entry) = IsEntryNumber entry
RequestFits (ask.Mark run value) = (run < 2 ^ 64) × IsMark value
RequestFits (ask.Done run status) = (run < 2 ^ 64) × (status < 2 ^ 32)
RequestFits ask.Tick = Unit {0}
RequestFits ask.NodeUp = Unit {0}
RequestFits (ask.NodeLost nodes) = IsList IsName nodes
RequestFits (ask.Took epoch gone up may) = (epoch < 2 ^ 64) × IsList IsName gone × IsList IsName up × IsList IsName may

abbrev pub BodyFits : Body → Type 0
BodyFits (body.Ask r) = RequestFits r
BodyFits (body.Head nodes may next_entry next_run last) =
    IsList NodeFits nodes × IsList IsName may × (next_entry < 2 ^ 32) × (next_run < 2 ^ 64) × IsMoment last
BodyFits (body.Form f) = FormFits f
BodyFits (body.Queue q) = QueueFits q
BodyFits other = ⊥

-- a row of an image, which has the first moment and the first node, and no request
abbrev pub is_row : Body → Bool
is_row (body.Ask r) = false
is_row (body.Head nodes may next_entry next_run last) = true
is_row (body.Form f) = true
is_row (body.Characteristic c) = true
is_row (body.File f) = true
is_row (body.Queue q) = true
is_row (body.Entry e) = true

pub record HasSpelling (r : Record) : Type 0 where
  pub moment_fits : IsMoment r.moment
  pub node_fits : IsByte r.node
  pub body_fits : BodyFits r.body
  pub row_moment : is_row r.body ≡ true → r.moment ≡ 0
  pub row_node : is_row r.body ≡ true → r.node ≡ 0

-- ---- what a value's type doesn't say of it

-- the characteristics that are given fit their count
abbrev pub IsShortChange : QueueChange → Type 0
IsShortChange c = AllOf (λ (xs : List NameOrNumber). length xs < 2 ^ 16) c.characteristics

abbrev pub IsShortEntryChange : EntryChange → Type 0
IsShortEntryChange c = AllOf (λ (xs : List NameOrNumber). length xs < 2 ^ 16) c.characteristics

pub record IsShortQueue (n : NewQueue) : Type 0 where
  pub targets : length n.targets < 2 ^ 16
  pub change : IsShortChange n.change

-- the lists of a request fit their counts
abbrev pub AreListsShort : Request → Type 0
AreListsShort (ask.Append file bytes) = length bytes < 2 ^ 32
AreListsShort (ask.InitializeQueue new) = IsShortQueue new
AreListsShort (ask.SetQueue name change) = IsShortChange change
AreListsShort (ask.StartQueue name change) = IsShortChange change
AreListsShort (ask.Submit j) = length j.characteristics < 2 ^ 16
AreListsShort (ask.SetEntry entry change) = IsShortEntryChange change
AreListsShort (ask.NodeLost nodes) = length nodes < 2 ^ 16
AreListsShort (ask.Took epoch gone up may) = (length gone < 2 ^ 16) × (length up < 2 ^ 16) × (length may < 2 ^ 16)
AreListsShort other = Unit {0}

-- What is asked of a request whose record is written.
pub record CanBeRecorded (r : Request) : Type 0 where
  pub short : AreListsShort r

-- the lists are short enough, and the body is of a kind that has a spelling
abbrev pub IsShortBody : Body → Type 0
IsShortBody (body.Ask r) = CanBeRecorded r
IsShortBody (body.Head nodes may next_entry next_run last) = (length nodes < 2 ^ 16) × (length may < 2 ^ 16)
IsShortBody (body.Form f) = Unit {0}
IsShortBody (body.Queue q) = length q.targets < 2 ^ 16
IsShortBody other = ⊥

-- What is asked of a record that is written. The rest of HasSpelling holds of each record by the types of its fields.
pub record CanBeWritten (r : Record) : Type 0 where
  pub short : IsShortBody r.body
  pub row_moment : is_row r.body ≡ true → r.moment ≡ 0
  pub row_node : is_row r.body ≡ true → r.node ≡ 0
