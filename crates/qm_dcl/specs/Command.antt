-- What the text of a command asks for, or what is wrong and where.
-- DCL Dictionary, on the commands of queues, jobs, forms and characteristics. This site's own: which fault is told, and which forms
-- aren't built.
use Rattle.std.specs.Prelude.{ℕ, nat_lt, if◌then◌else◌, List, Option, None, Some, option_map, option_and_then, Result, Ok, Err, ok_or}
use Rattle.qm_model.specs.Common.{Input, Ask, Show, TakeManager, Request, DefineForm, DeleteForm, DefineCharacteristic, DeleteCharacteristic, Submit, SetEntry, DeleteEntry}
use Rattle.qm_kinds.specs.declared.refusal.ParseKind.TheVariants as fault
use Rattle.qm_kinds.specs.declared.entry.JobKind.TheVariants.{Batch, Print}
use Rattle.qm_commands.specs.declared.fault.Fault.{Fault}
use Rattle.qm_commands.specs.declared.table.Command.{Command}
use Rattle.qm_commands.specs.declared.table.Command.TheVariants as command
use Rattle.qm_grammar.specs.Finding.{named_command}
use Rattle.qm_grammar.specs.Parsed.{tokens_in, parts_in, command_in}
use Rattle.qm_dcl.specs.declared.lists.Lists.{Lists}
use Rattle.qm_dcl.specs.declared.settings.Settings.{Settings}
use Rattle.qm_dcl.specs.Forms.{form_of, characteristic_of}
use Rattle.qm_dcl.specs.Settings.{settings_of}
use Rattle.qm_dcl.specs.Lists.{lists_of, nodes_of}
use Rattle.qm_dcl.specs.Submitting.{job_of}
use Rattle.qm_dcl.specs.Entries.{entry_change_of}
use Rattle.qm_dcl.specs.Showing.{characteristics_query, entries_query, forms_query, manager_query, queues_query}
use Rattle.qm_dcl.specs.Queues.{queue_request}

-- what a command changes, where this form of it is built
abbrev pub request_of : List ℕ → Command → Settings → Lists → Option Request
request_of user command.Submit s lists = option_map (λ file. Submit (job_of user Batch file s lists)) s.file
request_of user command.Print s lists = option_map (λ file. Submit (job_of user Print file s lists)) s.file
request_of user command.SetEntry s lists =
    option_map (λ number. SetEntry number (entry_change_of s.job s.queue lists.characteristics)) s.entry
request_of user command.DeleteEntry s lists = option_map DeleteEntry s.entry
request_of user command.DefineForm s lists = option_map DefineForm (form_of s.definition)
request_of user command.DefineCharacteristic s lists = option_map DefineCharacteristic (characteristic_of s.definition)
request_of user command.DeleteForm s lists = option_map DeleteForm s.definition.name
request_of user command.DeleteCharacteristic s lists = option_map DeleteCharacteristic s.definition.name
request_of user c s lists = option_and_then (λ name. queue_request name c s lists) s.queue

-- what a command asks for, where this form of it is built
abbrev pub asked : List ℕ → Command → Settings → Lists → Option (List (List ℕ)) → Option Input
asked user command.ShowQueue s lists nodes = Some (Show (queues_query user s.listing))
asked user command.ShowEntry s lists nodes = Some (Show (entries_query user s.listing.pattern s.entry))
asked user command.ShowForms s lists nodes = Some (Show (forms_query s.listing.pattern))
asked user command.ShowCharacteristics s lists nodes = Some (Show (characteristics_query s.listing.pattern))
asked user command.ShowManagers s lists nodes = Some (Show manager_query)
asked user command.StartManager s lists nodes = Some (TakeManager nodes)
asked user c s lists nodes = option_map Ask (request_of user c s lists)

-- the fault of a text that isn't built
abbrev pub not_built : Fault
not_built = record { place = 0; kind = fault.NotBuilt }

-- what the grammar finds wrong, unless a value in front of that can't be read
abbrev pub judged : Result Command Fault → Result Settings Fault → Result Settings Fault
judged (Ok c) given = given
judged (Err f) (Ok s) = Err f
judged (Err f) (Err value) = if nat_lt value.place f.place then Err value else Err f

abbrev pub asked_with : List ℕ → Command → Lists → Option (List (List ℕ)) → Result Settings Fault → Result Input Fault
asked_with user c lists nodes (Ok s) = ok_or (asked user c s lists nodes) not_built
asked_with user c lists nodes (Err f) = Err f

-- what a text asks for that names a command
abbrev pub meant : List ℕ → ℕ → List ℕ → Command → Result Input Fault
meant user now text c =
    asked_with user c (lists_of text (parts_in text)) (nodes_of text (parts_in text))
    (judged (command_in text) (settings_of now text c (parts_in text)))

-- what is wrong with a text that names no command
abbrev pub unnamed : Result Command Fault → Result Input Fault
unnamed (Ok c) = Err not_built
unnamed (Err f) = Err f

-- what a text asks for that names a command, or names none
abbrev pub command_named : List ℕ → ℕ → List ℕ → Option Command → Result Input Fault
command_named user now text None = unnamed (command_in text)
command_named user now text (Some c) = meant user now text c

-- what the text of a user asks for that is read at a moment, or the fault with the least place
abbrev pub command_of : List ℕ → ℕ → List ℕ → Result Input Fault
command_of user now text = command_named user now text (named_command text (tokens_in text))
