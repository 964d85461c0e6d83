-- The runs that a node has to serve.
-- OpenVMS System Services Reference Manual, $GETQUI, on executing jobs of a node's queues.
use Rattle.std.specs.Prelude.{ℕ, ◌==◌, ◌≤◌, nat_lt, Bool, true, false, if◌then◌else◌, List, [], length, map, filter, fold, unwrap_or, Option, None, Some, IfSome}
use Rattle.std.specs.List.{list_any}
use Rattle.std.specs.Option.{option_map_or, option_and_then}
use Rattle.qm_kinds.specs.declared.entry.Entry.{Entry}
use Rattle.qm_kinds.specs.declared.form.Shape.{Shape}
use Rattle.qm_kinds.specs.declared.limits.TheConstants.{FILE_LIMIT}
use Rattle.qm_kinds.specs.declared.queue.Queue.{Queue}
use Rattle.qm_kinds.specs.declared.queue.QueueState.{QueueState}
use Rattle.qm_kinds.specs.declared.queue.QueueState.TheVariants.{Stopped, Started, Paused, Stopping}
use Rattle.qm_kinds.specs.declared.request.NameOrNumber.TheVariants.{Name}
use Rattle.qm_kinds.specs.declared.system.System.{System}
use Rattle.qm_kinds.specs.Names.{default_form}
use Rattle.qm_kinds.specs.declared.work.Work.{Work}
use Rattle.qm_kinds.specs.declared.work.Duty.{Duty}
use Rattle.qm_kinds.specs.declared.entry.JobKind.{JobKind}
use Rattle.qm_kinds.specs.declared.entry.JobKind.TheVariants.{Batch, Print}
use Rattle.qm_model.specs.Consistent.{HasRoom}
use Rattle.qm_model.specs.Find.{queue_named, form_wanted}
use Rattle.qm_model.specs.JobStates.{run_of, runs_in, is_aborting}
use Rattle.qm_model.specs.First.{first_form}
use Rattle.qm_model.specs.Appending.{bytes_of}
use Rattle.qm_model.specs.Standing.{is_run_on}
use Rattle.qm_model.specs.Inserting.{inserted}

-- the runs of the queue wait
abbrev pub is_paused : QueueState → Bool
is_paused Stopped = false
is_paused Started = false
is_paused Paused = true
is_paused Stopping = false

-- the number of an entry's run
abbrev pub run_number : Entry → ℕ
run_number e = unwrap_or (run_of e.state) 0

-- the queue where an entry runs
abbrev pub queue_of_run : System → Entry → Option Queue
queue_of_run s e = option_and_then (λ name. queue_named name s.queues) (runs_in e.state)

-- the device at which an entry runs
abbrev pub device_of_run : System → Entry → Option (List ℕ)
device_of_run s e = option_and_then (λ q. q.device) (queue_of_run s e)

-- the form that shapes a job's pages: that of a print job, and DEFAULT for a batch job
abbrev pub form_that_shapes : JobKind → Option (List ℕ) → List ℕ
form_that_shapes Batch form = default_form
form_that_shapes Print form = unwrap_or form default_form

-- how the pages of a job are set
abbrev pub shape_of : System → Entry → Shape
shape_of s e = option_map_or (λ f. f.shape) (form_wanted (Name (form_that_shapes e.kind e.form)) s.forms) first_form.shape

-- what a symbiont needs for a run
abbrev pub work_of : System → Entry → Work
work_of s e = record {
  run = run_number e;
  entry = e.number;
  kind = e.kind;
  name = e.name;
  user = e.user;
  device = unwrap_or (device_of_run s e) [];
  text = bytes_of e.file s.files;
  shape = shape_of s e;
  copies = e.copies;
  flag = e.flag;
  again = e.again;
  mark = e.mark;
}

-- what a node that knows the work of some runs has to do for one run
abbrev pub duty_of : System → List ℕ → Entry → Duty
duty_of s known e = record {
  run = run_number e;
  aborting = is_aborting e.state;
  paused = option_map_or (λ q. is_paused q.state) (queue_of_run s e) false;
  work = if list_any (λ run. run == run_number e) known then None else Some (work_of s e);
}

-- by the number of the run
abbrev pub by_run : List Entry → List Entry
by_run entries = fold (λ sorted e. inserted (λ a b. nat_lt (run_number a) (run_number b)) e sorted) [] entries

-- what a node has to do that knows the work of some runs
abbrev pub duties : System → List ℕ → List ℕ → List Duty
duties s node known = map (duty_of s known) (by_run (filter (is_run_on node) s.entries))

-- a work that can be carried out: a page has a row and a column between its margins, and the text is no longer than a file
pub record IsProperWork (w : Work) : Type 0 where
  pub shape : HasRoom w.shape
  pub text : length w.text ≤ FILE_LIMIT

-- the work of a duty, where it is shown, can be carried out
abbrev pub HasProperWork : Duty → Type 0
HasProperWork d = IfSome d.work IsProperWork
