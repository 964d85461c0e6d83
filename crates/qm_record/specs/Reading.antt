-- Reading records.
use Rattle.std.specs.Prelude.{◌≡◌, ℕ, suc, ◌-◌, ◌==◌, if◌then◌else◌, List, [], ◌∷◌, length, Option, None, Some, Result, Ok, Err}
use Rattle.qm_kinds.specs.declared.request.Request.TheVariants as ask
use Rattle.qm_model.specs.Common.{EntryChange, Job, NameOrNumber, Name, Number, JobKind, JobRetain, QueueKind, QueueState, QueueRetain, Queue, QueueChange, NewQueue, StopMode, Form, Shape, Characteristic, Node, LAST_MOMENT, Record, Body}
use Rattle.qm_kinds.specs.declared.entry.JobKind.TheVariants as job
use Rattle.qm_kinds.specs.declared.entry.JobRetain.TheVariants as retain
use Rattle.qm_kinds.specs.declared.queue.QueueKind.TheVariants as kind
use Rattle.qm_kinds.specs.declared.queue.QueueState.TheVariants as state
use Rattle.qm_kinds.specs.declared.queue.QueueRetain.TheVariants as keep
use Rattle.qm_kinds.specs.declared.request.StopMode.TheVariants as stop
use Rattle.qm_bytes.specs.declared.fault.BadField.{BadField}
use Rattle.qm_bytes.specs.Reading.{Reader, IsThere, ◌>>=◌, pure, byte_where, between, number_at, number_up_to, truth_at, optional_at, list_at, name_at, file_name_at, long_bytes_at, mark_at, set_at, moment_at}
use Rattle.qm_kinds.specs.declared.record.Body.TheVariants as body
use Rattle.qm_kinds.specs.declared.request_kind.RequestKind.TheVariants as requests
use Rattle.qm_record.specs.declared.kind.RecordKind.{RecordKind}
use Rattle.qm_record.specs.declared.kind.RecordKind.TheVariants as record_kind
use Rattle.qm_record.specs.declared.fault.RecordFault.{RecordFault}
use Rattle.qm_record.specs.declared.fault.RecordFault.TheVariants.{Bad, NoMemory}
use Rattle.qm_record.specs.declared.reading.Front.{Front}
use Rattle.qm_record.specs.Kinds.{kind_of, is_row_kind}

abbrev pub byte_at : Reader ℕ
byte_at = byte_where (between 0 255)

-- what a function says that reads without keeping
abbrev pub Passes : {X A : Type 0} → Result X BadField → List ℕ → Result (A × List ℕ) ℕ → Type 0
Passes (Ok x) rest read = IsThere rest read
Passes (Err fault) rest read = read ≡ Err fault.left

-- ---- codes

abbrev pub job_kind_of : ℕ → JobKind
job_kind_of n = if n == 1 then job.Batch else job.Print

abbrev pub queue_kind_of : ℕ → QueueKind
queue_kind_of n =
    if n == 1 then kind.Batch else if n == 2 then kind.Print else if n == 3 then kind.GenericBatch else kind.GenericPrint

abbrev pub queue_state_of : ℕ → QueueState
queue_state_of n =
    if n == 1 then state.Stopped else if n == 2 then state.Started else if n == 3 then state.Paused else state.Stopping

abbrev pub queue_retain_of : ℕ → QueueRetain
queue_retain_of n = if n == 0 then keep.Nothing else if n == 1 then keep.Failed else keep.All

abbrev pub plain_retain_of : ℕ → JobRetain
plain_retain_of n = if n == 0 then retain.Default else if n == 1 then retain.Always else retain.Failed

abbrev pub stop_mode_of : ℕ → StopMode
stop_mode_of n = if n == 1 then stop.Pause else if n == 2 then stop.Next else stop.Reset

unfoldable pub job_kind_at : Reader JobKind
job_kind_at = byte_where (between 1 2) >>= λ n. pure (job_kind_of n)

unfoldable pub queue_kind_at : Reader QueueKind
queue_kind_at = byte_where (between 1 4) >>= λ n. pure (queue_kind_of n)

unfoldable pub queue_state_at : Reader QueueState
queue_state_at = byte_where (between 1 4) >>= λ n. pure (queue_state_of n)

unfoldable pub queue_retain_at : Reader QueueRetain
queue_retain_at = byte_where (between 0 2) >>= λ n. pure (queue_retain_of n)

unfoldable pub stop_mode_at : Reader StopMode
stop_mode_at = byte_where (between 1 3) >>= λ n. pure (stop_mode_of n)

-- ---- fields

unfoldable pub job_retain_at : Reader JobRetain
job_retain_at = do
  n ← byte_where (between 0 3)
  if n == 3 then (moment_at >>= λ m. pure (retain.Until m)) else pure (plain_retain_of n)

unfoldable pub name_or_number_at : Reader NameOrNumber
name_or_number_at = do
  n ← byte_where (between 0 1)
  if n == 0 then (name_at >>= λ name. pure (Name name)) else (number_at 2 >>= λ number. pure (Number number))

unfoldable pub node_at : Reader Node
node_at = do
  name ← name_at
  up ← truth_at
  pure (record { name = name; up = up })

unfoldable pub shape_at : Reader Shape
shape_at = do
  length ← byte_at
  width ← byte_at
  top ← byte_at
  bottom ← byte_at
  left ← byte_at
  right ← byte_at
  wrap ← truth_at
  pure (record { length = length; width = width; top = top; bottom = bottom; left = left; right = right; wrap = wrap })

unfoldable pub form_at : Reader Form
form_at = do
  name ← name_at
  number ← number_at 2
  stock ← name_at
  shape ← shape_at
  pure (record { name = name; number = number; stock = stock; shape = shape })

unfoldable pub characteristic_at : Reader Characteristic
characteristic_at = do
  name ← name_at
  number ← byte_at
  pure (record { name = name; number = number })

unfoldable pub limits_at : Reader (ℕ × ℕ)
limits_at = do
  lower ← number_at 4
  upper ← number_at 4
  pure (lower, upper)

unfoldable pub change_at : Reader QueueChange
change_at = do
  limit ← optional_at byte_at
  characteristics ← optional_at (list_at name_or_number_at)
  form ← optional_at name_or_number_at
  blocks ← optional_at limits_at
  by_size ← optional_at truth_at
  retain ← optional_at queue_retain_at
  pure (record {
    limit = limit;
    characteristics = characteristics;
    form = form;
    blocks = blocks;
    by_size = by_size;
    retain = retain;
  })

unfoldable pub new_queue_at : Reader NewQueue
new_queue_at = do
  name ← name_at
  kind ← queue_kind_at
  node ← optional_at name_at
  device ← optional_at name_at
  targets ← list_at name_at
  change ← change_at
  start ← truth_at
  pure (record { name = name; kind = kind; node = node; device = device; targets = targets; change = change; start = start })

unfoldable pub queue_at : Reader Queue
queue_at = do
  name ← name_at
  kind ← queue_kind_at
  state ← queue_state_at
  node ← optional_at name_at
  device ← optional_at name_at
  limit ← byte_at
  characteristics ← set_at
  mounted ← optional_at name_at
  lower ← number_at 4
  upper ← number_at 4
  by_size ← truth_at
  retain ← queue_retain_at
  targets ← list_at name_at
  pure (record {
    name = name;
    kind = kind;
    state = state;
    node = node;
    device = device;
    limit = limit;
    characteristics = characteristics;
    mounted = mounted;
    lower = lower;
    upper = upper;
    by_size = by_size;
    retain = retain;
    targets = targets;
  })

-- ---- records

-- a kind, by its number
abbrev pub told : Option RecordKind → List ℕ → Result (RecordKind × List ℕ) ℕ
told None bytes = Err (suc (length bytes))
told (Some kind) bytes = Ok (kind, bytes)

unfoldable pub record_kind_at : Reader RecordKind
record_kind_at [] = Err 0
record_kind_at (n ∷ bytes) = told (kind_of n) bytes

unfoldable pub append_at : Reader Body
append_at = do
  file ← file_name_at
  bytes ← long_bytes_at
  pure (body.Ask (ask.Append file bytes))

unfoldable pub fill_at : Reader Body
fill_at = do
  file ← file_name_at
  lines ← number_at 2
  pure (body.Ask (ask.Fill file lines))

unfoldable pub drop_at : Reader Body
drop_at = file_name_at >>= λ file. pure (body.Ask (ask.Drop file))

unfoldable pub define_form_at : Reader Body
define_form_at = form_at >>= λ f. pure (body.Ask (ask.DefineForm f))

unfoldable pub delete_form_at : Reader Body
delete_form_at = name_at >>= λ name. pure (body.Ask (ask.DeleteForm name))

unfoldable pub define_characteristic_at : Reader Body
define_characteristic_at = characteristic_at >>= λ c. pure (body.Ask (ask.DefineCharacteristic c))

unfoldable pub delete_characteristic_at : Reader Body
delete_characteristic_at = name_at >>= λ name. pure (body.Ask (ask.DeleteCharacteristic name))

unfoldable pub job_at : Reader Job
job_at = do
  user ← name_at
  kind ← job_kind_at
  queue ← name_at
  file ← file_name_at
  name ← name_at
  priority ← byte_at
  after ← optional_at moment_at
  hold ← truth_at
  retain ← job_retain_at
  restart ← truth_at
  characteristics ← list_at name_or_number_at
  form ← optional_at name_or_number_at
  copies ← byte_at
  flag ← truth_at
  pure (record {
    user = user;
    kind = kind;
    queue = queue;
    file = file;
    name = name;
    priority = priority;
    after = after;
    hold = hold;
    retain = retain;
    restart = restart;
    characteristics = characteristics;
    form = form;
    copies = copies;
    flag = flag;
  })

unfoldable pub submit_at : Reader Body
submit_at = job_at >>= λ j. pure (body.Ask (ask.Submit j))

unfoldable pub initialize_at : Reader Body
initialize_at = new_queue_at >>= λ n. pure (body.Ask (ask.InitializeQueue n))

unfoldable pub set_queue_at : Reader Body
set_queue_at = do
  name ← name_at
  change ← change_at
  pure (body.Ask (ask.SetQueue name change))

unfoldable pub start_queue_at : Reader Body
start_queue_at = do
  name ← name_at
  change ← change_at
  pure (body.Ask (ask.StartQueue name change))

unfoldable pub stop_queue_at : Reader Body
stop_queue_at = do
  name ← name_at
  how ← stop_mode_at
  pure (body.Ask (ask.StopQueue name how))

unfoldable pub abort_job_at : Reader Body
abort_job_at = do
  queue ← name_at
  entry ← optional_at (number_at 4)
  requeue ← truth_at
  pure (body.Ask (ask.AbortJob queue entry requeue))

unfoldable pub delete_queue_at : Reader Body
delete_queue_at = name_at >>= λ name. pure (body.Ask (ask.DeleteQueue name))

unfoldable pub merge_at : Reader Body
merge_at = do
  to ← name_at
  from ← name_at
  pure (body.Ask (ask.Merge to from))

unfoldable pub entry_change_at : Reader EntryChange
entry_change_at = do
  release ← truth_at
  hold ← truth_at
  after ← optional_at (optional_at moment_at)
  priority ← optional_at byte_at
  name ← optional_at name_at
  characteristics ← optional_at (list_at name_or_number_at)
  form ← optional_at name_or_number_at
  queue ← optional_at name_at
  restart ← optional_at truth_at
  retain ← optional_at job_retain_at
  pure (record {
    release = release;
    hold = hold;
    after = after;
    priority = priority;
    name = name;
    characteristics = characteristics;
    form = form;
    queue = queue;
    restart = restart;
    retain = retain;
  })

unfoldable pub set_entry_at : Reader Body
set_entry_at = do
  entry ← number_at 4
  change ← entry_change_at
  pure (body.Ask (ask.SetEntry entry change))

unfoldable pub delete_entry_at : Reader Body
delete_entry_at = number_at 4 >>= λ entry. pure (body.Ask (ask.DeleteEntry entry))

unfoldable pub run_mark_at : Reader Body
run_mark_at = do
  run ← number_at 8
  value ← mark_at
  pure (body.Ask (ask.Mark run value))

unfoldable pub done_at : Reader Body
done_at = do
  run ← number_at 8
  status ← number_at 4
  pure (body.Ask (ask.Done run status))

unfoldable pub node_lost_at : Reader Body
node_lost_at = list_at name_at >>= λ nodes. pure (body.Ask (ask.NodeLost nodes))

unfoldable pub took_at : Reader Body
took_at = do
  epoch ← number_at 8
  gone ← list_at name_at
  up ← list_at name_at
  may ← list_at name_at
  pure (body.Ask (ask.Took epoch gone up may))

unfoldable pub head_at : Reader Body
head_at = do
  nodes ← list_at node_at
  may ← list_at name_at
  next_entry ← number_at 4
  next_run ← number_at 8
  last ← moment_at
  pure (body.Head nodes may next_entry next_run last)

unfoldable pub form_row_at : Reader Body
form_row_at = form_at >>= λ f. pure (body.Form f)

unfoldable pub queue_row_at : Reader Body
queue_row_at = queue_at >>= λ q. pure (body.Queue q)

-- the fields of a record of each kind
unfoldable pub body_at : RecordKind → Reader Body
body_at (record_kind.Request requests.Append) = append_at
body_at (record_kind.Request requests.Fill) = fill_at
body_at (record_kind.Request requests.Drop) = drop_at
body_at (record_kind.Request requests.DefineForm) = define_form_at
body_at (record_kind.Request requests.DeleteForm) = delete_form_at
body_at (record_kind.Request requests.DefineCharacteristic) = define_characteristic_at
body_at (record_kind.Request requests.DeleteCharacteristic) = delete_characteristic_at
body_at (record_kind.Request requests.InitializeQueue) = initialize_at
body_at (record_kind.Request requests.SetQueue) = set_queue_at
body_at (record_kind.Request requests.StartQueue) = start_queue_at
body_at (record_kind.Request requests.StopQueue) = stop_queue_at
body_at (record_kind.Request requests.AbortJob) = abort_job_at
body_at (record_kind.Request requests.DeleteQueue) = delete_queue_at
body_at (record_kind.Request requests.Merge) = merge_at
body_at (record_kind.Request requests.Submit) = submit_at
body_at (record_kind.Request requests.SetEntry) = set_entry_at
body_at (record_kind.Request requests.DeleteEntry) = delete_entry_at
body_at record_kind.Mark = run_mark_at
body_at record_kind.Done = done_at
body_at record_kind.Tick = pure (body.Ask ask.Tick)
body_at record_kind.NodeUp = pure (body.Ask ask.NodeUp)
body_at record_kind.NodeLost = node_lost_at
body_at record_kind.Took = took_at
body_at record_kind.Head = head_at
body_at record_kind.Form = form_row_at
body_at record_kind.Queue = queue_row_at

-- the last moment and the last node of a record of a kind
abbrev pub last_moment : RecordKind → ℕ
last_moment kind = if is_row_kind kind then 0 else LAST_MOMENT

abbrev pub last_node : RecordKind → ℕ
last_node kind = if is_row_kind kind then 0 else 255

unfoldable pub record_at : Reader Record
record_at = do
  version ← byte_where (between 1 1)
  kind ← record_kind_at
  moment ← number_up_to 8 (last_moment kind)
  node ← byte_where (between 0 (last_node kind))
  body ← body_at kind
  pure (record { moment = moment; node = node; body = body })

-- a record and nothing behind it
abbrev pub ended : Result (Record × List ℕ) ℕ → Result Record ℕ
ended (Ok x) = if length x.1 == 0 then Ok x.0 else Err (length x.1)
ended (Err left) = Err left

unfoldable pub whole_at : List ℕ → Result Record ℕ
whole_at bytes = ended (record_at bytes)

-- What stands in front was read, and what is left is the body of this kind; or reading stopped.
abbrev pub GivesFront : Result Front BadField → List ℕ → Result (Record × List ℕ) ℕ → Type 0
GivesFront (Ok front) rest read =
    read ≡ (body_at front.kind >>= λ b. pure (record { moment = front.moment; node = front.node; body = b })) rest
GivesFront (Err fault) rest read = read ≡ Err fault.left

-- How many bytes are left where no record goes on, once a body was read: none where nothing stands behind it.
abbrev pub left_by : {X : Type 0} → Result X BadField → List ℕ → Option ℕ
left_by (Ok x) rest = if length rest == 0 then None else Some (length rest)
left_by (Err fault) rest = Some fault.left

-- the record of a body that was read whole, or that memory ran out for it
abbrev pub completed : {E : Type 0} → ℕ → ℕ → Result (Result Body E) BadField → Result Record RecordFault
completed m n (Ok (Ok b)) = Ok (record { moment = m; node = n; body = b })
completed m n (Ok (Err no_memory)) = Err NoMemory
completed m n (Err fault) = Err NoMemory

-- What is told of the whole, at its place in the bytes. Where memory ran out there is a record.
abbrev pub TellsWhole : Result Record RecordFault → List ℕ → Result Record ℕ → Type 0
TellsWhole (Ok r) bytes read = read ≡ Ok r
TellsWhole (Err (Bad place)) bytes read = (left : ℕ) × (read ≡ Err left) × (place ≡ length bytes - left)
TellsWhole (Err NoMemory) bytes read = (r : Record) × (read ≡ Ok r)
