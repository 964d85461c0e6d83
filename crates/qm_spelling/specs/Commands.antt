-- The one full spelling of a command: verb and option whole, the parameters, and a qualifier for each thing that isn't as it is
-- where nothing is given, in the order of the tables. It says nothing of the user who types it and of the moment when it is read.
-- DCL Dictionary, on the commands of queues, jobs, forms and characteristics.
use Rattle.std.specs.Prelude.{ℕ, if◌then◌else◌, List, [], ◌∷◌, ◌++◌, codes, decimal, Option, None, Some}
use Rattle.qm_model.specs.Common.{Input, Ask, Show, Compact, Fetch, StopNode, StartNode, TakeManager, Fault, Request}
use Rattle.qm_kinds.specs.declared.request.Request.TheVariants.{Append, Fill, Drop, DefineForm, DeleteForm, DefineCharacteristic, DeleteCharacteristic, InitializeQueue, SetQueue, StartQueue, StopQueue, AbortJob, DeleteQueue, Merge, Submit, SetEntry, DeleteEntry, Mark, Done, Tick, NodeUp, NodeLost, Took}
use Rattle.qm_commands.specs.declared.word.Word.TheVariants as words
use Rattle.qm_sayable.specs.Commands.{is_command}
use Rattle.qm_spelling.specs.Pieces.{valued, list_text}
use Rattle.qm_spelling.specs.Queues.{queue_settings_text, new_queue_text, stop_text, abort_text}
use Rattle.qm_spelling.specs.Jobs.{job_text, set_entry_text}
use Rattle.qm_spelling.specs.Forms.{form_text, characteristic_text}
use Rattle.qm_spelling.specs.Listings.{query_text}

-- a request that a command asks for; for the others there is no text
abbrev pub request_text : Request → List ℕ
request_text (DefineForm form) = form_text form
request_text (DeleteForm name) = codes "DELETE/FORM " ++ name
request_text (DefineCharacteristic characteristic) = characteristic_text characteristic
request_text (DeleteCharacteristic name) = codes "DELETE/CHARACTERISTIC " ++ name
request_text (InitializeQueue new) = new_queue_text new
request_text (SetQueue name change) = codes "SET QUEUE " ++ name ++ queue_settings_text change
request_text (StartQueue name change) = codes "START/QUEUE " ++ name ++ queue_settings_text change
request_text (StopQueue name how) = stop_text name how
request_text (AbortJob queue entry requeue) = abort_text queue entry requeue
request_text (DeleteQueue name) = codes "DELETE/QUEUE " ++ name
request_text (Merge to from) = codes "ASSIGN/MERGE " ++ to ++ codes " " ++ from
request_text (Submit job) = job_text job.kind job
request_text (SetEntry entry change) = set_entry_text entry change
request_text (DeleteEntry entry) = codes "DELETE/ENTRY=" ++ decimal entry
request_text (Append file bytes) = []
request_text (Fill file lines) = []
request_text (Drop file) = []
request_text (Mark run value) = []
request_text (Done run status) = []
request_text Tick = []
request_text NodeUp = []
request_text (NodeLost nodes) = []
request_text (Took epoch gone up may) = []

-- the nodes on which the queue manager may run, where they are given; the empty list stands for all
abbrev pub nodes_text : Option (List (List ℕ)) → List ℕ
nodes_text None = []
nodes_text (Some []) = valued words.On (Some (codes "*"))
nodes_text (Some (first ∷ others)) = valued words.On (Some (list_text (first ∷ others)))

-- the text of a command; for what no command asks for there is none
abbrev pub command_text : Input → List ℕ
command_text (Ask request) = request_text request
command_text (Show query) = query_text query.listing query
command_text (TakeManager on) = codes "START/QUEUE/MANAGER" ++ nodes_text on
command_text Compact = []
command_text (Fetch known) = []
command_text StopNode = []
command_text StartNode = []
command_text (Fault place kind) = []

-- the full spelling of an input, if some command asks for it
abbrev pub spelling_of : Input → Option (List ℕ)
spelling_of input = if is_command input then Some (command_text input) else None
