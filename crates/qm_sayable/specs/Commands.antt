-- Which inputs some command asks for.
-- DCL Dictionary, on the commands of queues, jobs, forms and characteristics.
use Rattle.std.specs.Prelude.{Bool, true, false, ◌&&◌, ℕ, List, length}
use Rattle.std.specs.List.{list_all}
use Rattle.std.specs.Option.{option_map_or}
use Rattle.qm_model.specs.Common.{Input, Ask, Show, Compact, Fetch, StopNode, StartNode, TakeManager, Fault, Request, is_short, is_definable}
use Rattle.qm_kinds.specs.declared.request.Request.TheVariants.{Append, Fill, Drop, DefineForm, DeleteForm, DefineCharacteristic, DeleteCharacteristic, InitializeQueue, SetQueue, StartQueue, StopQueue, AbortJob, DeleteQueue, Merge, Submit, SetEntry, DeleteEntry, Mark, Done, Tick, NodeUp, NodeLost, Took}
use Rattle.qm_dcl.specs.Values.{is_node_name}
use Rattle.qm_sayable.specs.Values.{fits_list}
use Rattle.qm_sayable.specs.Queues.{are_queue_settings, sets_queue, is_new_queue}
use Rattle.qm_sayable.specs.Jobs.{is_job, is_entry_change}
use Rattle.qm_sayable.specs.Forms.{is_form}
use Rattle.qm_sayable.specs.Listings.{is_query}

-- A request that some text asks for, of some user, at some moment. No command files anything, none speaks of a run, and none of a
-- node that comes or goes.
abbrev pub is_request : Request → Bool
is_request (DefineForm form) = is_form form
is_request (DeleteForm name) = is_definable name
is_request (DefineCharacteristic characteristic) = is_definable characteristic.name
is_request (DeleteCharacteristic name) = is_definable name
is_request (InitializeQueue new) = is_new_queue new
is_request (SetQueue name change) = is_short name && sets_queue change && are_queue_settings change
is_request (StartQueue name change) = is_short name && are_queue_settings change
is_request (StopQueue name how) = is_short name
is_request (AbortJob queue entry requeue) = is_short queue
is_request (DeleteQueue name) = is_short name
is_request (Merge to from) = is_short to && is_short from
is_request (Submit job) = is_job job
is_request (SetEntry entry change) = is_entry_change change
is_request (DeleteEntry entry) = true
is_request (Append file bytes) = false
is_request (Fill file lines) = false
is_request (Drop file) = false
is_request (Mark run value) = false
is_request (Done run status) = false
is_request Tick = false
is_request NodeUp = false
is_request (NodeLost nodes) = false
is_request (Took epoch gone up may) = false

-- nodes on which the queue manager may run
abbrev pub are_nodes : List (List ℕ) → Bool
are_nodes nodes = fits_list (length nodes) && list_all is_node_name nodes

-- an input that some text asks for, of some user, at some moment
abbrev pub is_command : Input → Bool
is_command (Ask request) = is_request request
is_command (Show query) = is_query query
is_command (TakeManager on) = option_map_or are_nodes on true
is_command Compact = false
is_command (Fetch known) = false
is_command StopNode = false
is_command StartNode = false
is_command (Fault place kind) = false
