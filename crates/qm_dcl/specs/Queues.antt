-- Commands of queues.
-- DCL Dictionary, INITIALIZE/QUEUE, SET QUEUE, START/QUEUE, STOP/QUEUE and ASSIGN/MERGE.
use Rattle.std.specs.Prelude.{ℕ, Bool, true, false, List, [], Option, None, Some, option_map, option_and_then, is_some, unwrap_or}
use Rattle.qm_commands.specs.declared.table.Command.{Command}
use Rattle.qm_commands.specs.declared.table.Command.TheVariants as command
use Rattle.qm_model.specs.Common.{NewQueue, QueueChange, QueueKind, NameOrNumber, Request, InitializeQueue, SetQueue, StartQueue, StopQueue, AbortJob, DeleteQueue, Merge}
use Rattle.qm_kinds.specs.declared.queue.QueueKind.TheVariants.{Batch, Print, GenericBatch, GenericPrint}
use Rattle.qm_kinds.specs.declared.request.StopMode.TheVariants as mode
use Rattle.qm_dcl.specs.declared.lists.Lists.{Lists}
use Rattle.qm_dcl.specs.declared.settings.QueueSettings.{QueueSettings}
use Rattle.qm_dcl.specs.declared.settings.Settings.{Settings}
use Rattle.qm_dcl.specs.declared.settings.Stop.{Stop}
use Rattle.qm_dcl.specs.declared.settings.Stop.TheVariants.{Next, Reset, Abort, Requeue}
use Rattle.qm_dcl.specs.declared.value.Location.{Location}

-- what is changed of a queue
abbrev pub change_of : QueueSettings → Option (List NameOrNumber) → QueueChange
change_of s characteristics = record {
  limit = s.limit;
  characteristics = characteristics;
  form = s.form;
  blocks = s.blocks;
  by_size = s.by_size;
  retain = s.retain;
}

-- a queue for batch jobs or for print jobs, which is generic or not
abbrev pub kind_of : Bool → Bool → QueueKind
kind_of true false = Batch
kind_of false false = Print
kind_of true true = GenericBatch
kind_of false true = GenericPrint

-- a new queue, which is generic where targets are given
abbrev pub new_queue_of : List ℕ → QueueSettings → Lists → NewQueue
new_queue_of name s lists = record {
  name = name;
  kind = kind_of s.batch (is_some lists.targets);
  node = option_map (λ (location : Location). location.node) s.location;
  device = option_and_then (λ (location : Location). location.device) s.location;
  targets = unwrap_or lists.targets [];
  change = change_of s lists.characteristics;
  start = s.start;
}

-- STOP/QUEUE: without more its runs wait; with /NEXT and /RESET they end; with the others one of its jobs does, and /ENTRY alone means /ABORT
abbrev pub stop_of : List ℕ → Option Stop → Option ℕ → Request
stop_of name None None = StopQueue name mode.Pause
stop_of name None (Some entry) = AbortJob name (Some entry) false
stop_of name (Some Next) entry = StopQueue name mode.Next
stop_of name (Some Reset) entry = StopQueue name mode.Reset
stop_of name (Some Abort) entry = AbortJob name entry false
stop_of name (Some Requeue) entry = AbortJob name entry true

-- what a command of the queue with this name changes
abbrev pub queue_request : List ℕ → Command → Settings → Lists → Option Request
queue_request name command.InitializeQueue s lists = Some (InitializeQueue (new_queue_of name s.queue_settings lists))
queue_request name command.SetQueue s lists = Some (SetQueue name (change_of s.queue_settings lists.characteristics))
queue_request name command.StartQueue s lists = Some (StartQueue name (change_of s.queue_settings lists.characteristics))
queue_request name command.StopQueue s lists = Some (stop_of name s.stop s.entry)
queue_request name command.DeleteQueue s lists = Some (DeleteQueue name)
queue_request name command.AssignMerge s lists = option_map (Merge name) s.source
queue_request name _ s lists = None
