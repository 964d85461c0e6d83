-- What a function asks for with its items. What isn't given has the default that commands have.
-- OpenVMS System Services Reference Manual, $SNDJBC and $GETQUI; DCL Dictionary, on defaults of the same commands.
use Rattle.std.specs.Prelude.{ℕ, nat_lt, Bool, true, false, if◌then◌else◌, List, [], ◌∷◌, length, Option, None, Some, option_map, option_and_then, unwrap_or}
use Rattle.qm_model.specs.Common.{file_name_of, JobKind, Default, FileName, Form, Shape, Input, Ask, Show, Listing, Query, NewQueue, QueueChange, QueueKind, EntryChange, Job, NameOrNumber, Request, Pause}
use Rattle.qm_kinds.specs.Names.{batch_queue, print_queue}
use Rattle.qm_kinds.specs.declared.entry.JobKind.TheVariants.{Batch, Print}
use Rattle.qm_kinds.specs.declared.query.Listing.TheVariants as listing
use Rattle.qm_kinds.specs.declared.request.Request.TheVariants as request
use Rattle.qm_values.specs.declared.items.item.Item.{Item}
use Rattle.qm_values.specs.declared.codes.TheConstants.{QUEUE, FILE, JOB_NAME, PRIORITY, AFTER, HOLD, RETAIN, RESTART, FORM, COPIES, FLAG, KIND, NODE, DEVICE, JOB_LIMIT, BLOCK_LOWER, BLOCK_UPPER, BY_SIZE, QUEUE_RETAIN, START, ENTRY, HOW, REQUEUE, TO_QUEUE, NAME, NUMBER, STOCK, SHAPE, LINES, SEARCH, RELEASE}
use Rattle.qm_kinds.specs.declared.request_kind.RequestKind.TheVariants as requests
use Rattle.qm_values.specs.declared.function.Function.{Function}
use Rattle.qm_values.specs.declared.function.Function.TheVariants as function
use Rattle.qm_values.specs.declared.looking.Lists.{Lists}
use Rattle.qm_values.specs.Looking.{value_in, is_given}
use Rattle.qm_values.specs.Values.{name_said, short_name_said, definable_name_said, node_said, pattern_said, reference_said, byte_said, short_said, long_said, small_said, after_said, truth_said, queue_kind_said, job_kind_said, queue_retain_said, job_retain_said, how_said, shape_said}

-- what the item of a code says
abbrev pub read_in : {X : Type 0} → (List ℕ → Option X) → ℕ → List Item → Option X
read_in said code items = option_and_then said (value_in code items)

-- ---- files

abbrev pub append_of : List Item → Option (List ℕ) → Option Request
append_of items bytes = option_and_then (λ file. option_map (request.Append file) bytes) (read_in file_name_of FILE items)

abbrev pub fill_of : List Item → Option Request
fill_of items = option_and_then (λ file. option_map (request.Fill file) (read_in short_said LINES items)) (read_in file_name_of FILE items)

-- ---- forms and characteristics

abbrev pub default_shape : Shape
default_shape = record { length = 66; width = 132; top = 0; bottom = 6; left = 0; right = 0; wrap = false }

-- a form, whose stock has by default its name
abbrev pub form_of : List Item → List ℕ → ℕ → Form
form_of items name number = record {
  name = name;
  number = number;
  stock = unwrap_or (read_in short_name_said STOCK items) name;
  shape = unwrap_or (read_in shape_said SHAPE items) default_shape;
}

abbrev pub define_form : List Item → Option Request
define_form items =
    option_and_then (λ name. option_map (λ number. request.DefineForm (form_of items name number)) (read_in short_said NUMBER items)) (read_in definable_name_said NAME items)

abbrev pub define_characteristic : List Item → Option Request
define_characteristic items =
    option_and_then (λ name. option_map (λ number. request.DefineCharacteristic (record { name = name; number = number })) (read_in small_said NUMBER items))
    (read_in definable_name_said NAME items)

-- ---- queues

-- the limits of the sizes of jobs: the lower one is 1 and the upper one all that can be said where only the other is given
abbrev pub blocks_of : Option ℕ → Option ℕ → Option (ℕ × ℕ)
blocks_of None None = None
blocks_of None (Some upper) = Some (1, upper)
blocks_of (Some lower) None = Some (lower, 4294967295)
blocks_of (Some lower) (Some upper) = Some (lower, upper)

-- what is changed of a queue
abbrev pub change_of : List Item → Option (List NameOrNumber) → QueueChange
change_of items characteristics = record {
  limit = read_in byte_said JOB_LIMIT items;
  characteristics = characteristics;
  form = read_in reference_said FORM items;
  blocks = blocks_of (read_in long_said BLOCK_LOWER items) (read_in long_said BLOCK_UPPER items);
  by_size = read_in truth_said BY_SIZE items;
  retain = read_in queue_retain_said QUEUE_RETAIN items;
}

abbrev pub new_queue : List Item → Lists → List ℕ → QueueKind → NewQueue
new_queue items lists name kind = record {
  name = name;
  kind = kind;
  node = read_in node_said NODE items;
  device = read_in short_name_said DEVICE items;
  targets = lists.targets;
  change = change_of items lists.characteristics;
  start = is_given START items;
}

abbrev pub initialize_of : List Item → Lists → Option Request
initialize_of items lists =
    option_and_then (λ name. option_map (λ kind. request.InitializeQueue (new_queue items lists name kind)) (read_in queue_kind_said KIND items))
    (read_in short_name_said QUEUE items)

-- more is given than what is to be changed
abbrev pub has_more : List Item → Bool
has_more items = nat_lt 1 (length items)

abbrev pub set_queue : List Item → Lists → Option Request
set_queue items lists =
    if has_more items then option_map (λ name. request.SetQueue name (change_of items lists.characteristics)) (read_in short_name_said QUEUE items) else None

abbrev pub start_queue : List Item → Lists → Option Request
start_queue items lists = option_map (λ name. request.StartQueue name (change_of items lists.characteristics)) (read_in short_name_said QUEUE items)

-- a queue is paused, where nothing else is said
abbrev pub stop_queue : List Item → Option Request
stop_queue items = option_map (λ name. request.StopQueue name (unwrap_or (read_in how_said HOW items) Pause)) (read_in short_name_said QUEUE items)

abbrev pub abort_job : List Item → Option Request
abort_job items =
    option_map (λ name. request.AbortJob name (read_in long_said ENTRY items) (is_given REQUEUE items)) (read_in short_name_said QUEUE items)

abbrev pub merge_of : List Item → Option Request
merge_of items = option_and_then (λ to. option_map (request.Merge to) (read_in short_name_said QUEUE items)) (read_in short_name_said TO_QUEUE items)

-- ---- jobs

abbrev pub default_queue : JobKind → List ℕ
default_queue Batch = batch_queue
default_queue Print = print_queue

-- a print job may start again, a batch job may not
abbrev pub default_restart : JobKind → Bool
default_restart Batch = false
default_restart Print = true

abbrev pub job_of : List ℕ → List Item → Lists → JobKind → FileName → Job
job_of user items lists kind file = record {
  user = user;
  kind = kind;
  queue = unwrap_or (read_in short_name_said QUEUE items) (default_queue kind);
  file = file;
  name = unwrap_or (read_in name_said JOB_NAME items) file.name;
  priority = unwrap_or (read_in byte_said PRIORITY items) 100;
  after = unwrap_or (read_in after_said AFTER items) None;
  hold = is_given HOLD items;
  retain = unwrap_or (read_in job_retain_said RETAIN items) Default;
  restart = unwrap_or (read_in truth_said RESTART items) (default_restart kind);
  characteristics = unwrap_or lists.characteristics [];
  form = read_in reference_said FORM items;
  copies = unwrap_or (read_in byte_said COPIES items) 1;
  flag = is_given FLAG items;
}

abbrev pub submit_of : List ℕ → List Item → Lists → Option Request
submit_of user items lists =
    option_and_then (λ kind. option_map (λ file. request.Submit (job_of user items lists kind file)) (read_in file_name_of FILE items)) (read_in job_kind_said KIND items)

abbrev pub entry_change : List Item → Lists → EntryChange
entry_change items lists = record {
  release = is_given RELEASE items;
  hold = is_given HOLD items;
  after = read_in after_said AFTER items;
  priority = read_in byte_said PRIORITY items;
  name = read_in name_said JOB_NAME items;
  characteristics = lists.characteristics;
  form = read_in reference_said FORM items;
  queue = read_in short_name_said QUEUE items;
  restart = read_in truth_said RESTART items;
  retain = read_in job_retain_said RETAIN items;
}

abbrev pub set_entry : List Item → Lists → Option Request
set_entry items lists =
    if has_more items then option_map (λ number. request.SetEntry number (entry_change items lists)) (read_in long_said ENTRY items) else None

-- ---- listings

-- one row at a time of a listing, whatever its user and kind
abbrev pub query_of : Listing → List Item → Query
query_of list items = record {
  listing = list;
  pattern = unwrap_or (read_in pattern_said SEARCH items) (42 ∷ []);
  number = None;
  user = None;
  kinds = record { batch = true; print = true; generic_batch = true; generic_print = true };
  queue = None;
  after = None;
  single = true;
}

-- ---- each function

-- what a function changes but for submitting a job, where nothing that it needs is missing
abbrev pub change_asked : Function → List Item → Lists → Option Request
change_asked (function.Request requests.Append) items lists = append_of items lists.bytes
change_asked (function.Request requests.Fill) items lists = fill_of items
change_asked (function.Request requests.Drop) items lists = option_map request.Drop (read_in file_name_of FILE items)
change_asked (function.Request requests.DefineForm) items lists = define_form items
change_asked (function.Request requests.DeleteForm) items lists = option_map request.DeleteForm (read_in definable_name_said NAME items)
change_asked (function.Request requests.DefineCharacteristic) items lists = define_characteristic items
change_asked (function.Request requests.DeleteCharacteristic) items lists =
    option_map request.DeleteCharacteristic (read_in definable_name_said NAME items)
change_asked (function.Request requests.InitializeQueue) items lists = initialize_of items lists
change_asked (function.Request requests.SetQueue) items lists = set_queue items lists
change_asked (function.Request requests.StartQueue) items lists = start_queue items lists
change_asked (function.Request requests.StopQueue) items lists = stop_queue items
change_asked (function.Request requests.AbortJob) items lists = abort_job items
change_asked (function.Request requests.DeleteQueue) items lists = option_map request.DeleteQueue (read_in short_name_said QUEUE items)
change_asked (function.Request requests.Merge) items lists = merge_of items
change_asked (function.Request requests.SetEntry) items lists = set_entry items lists
change_asked (function.Request requests.DeleteEntry) items lists = option_map request.DeleteEntry (read_in long_said ENTRY items)
change_asked _ items lists = None

-- what a function changes, where nothing that it needs is missing
abbrev pub request_of : List ℕ → Function → List Item → Lists → Option Request
request_of user (function.Request requests.Submit) items lists = submit_of user items lists
request_of user f items lists = change_asked f items lists

-- what a function asks for, where nothing that it needs is missing
abbrev pub asked : List ℕ → Function → List Item → Lists → Option Input
asked user function.DisplayQueue items lists = Some (Show (query_of listing.Queues items))
asked user function.DisplayJob items lists = Some (Show (query_of listing.Jobs items))
asked user function.DisplayEntry items lists = Some (Show (query_of listing.Entries items))
asked user function.DisplayForm items lists = Some (Show (query_of listing.Forms items))
asked user function.DisplayCharacteristic items lists = Some (Show (query_of listing.Characteristics items))
asked user function.DisplayManager items lists = Some (Show (query_of listing.Manager items))
asked user function.CancelOperation items lists = Some (Show (query_of listing.Cancel items))
asked user f items lists = option_map Ask (request_of user f items lists)
