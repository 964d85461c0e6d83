-- What a qualifier, its value, or a parameter gives. What is given later counts, and what was given before has no effect.
-- DCL Dictionary, on the commands of queues, jobs, forms and characteristics.
use Rattle.std.specs.Prelude.{ℕ, Bool, true, false, ◌&&◌, not, if◌then◌else◌, List, Option, None, Some, option_map}
use Rattle.qm_model.specs.Common.{name_of, file_name_of, JobRetain, Until, Shape}
use Rattle.qm_kinds.specs.declared.queue.QueueRetain.TheVariants.{Nothing}
use Rattle.qm_commands.specs.declared.table.Command.{Command}
use Rattle.qm_commands.specs.declared.table.Command.TheVariants as command
use Rattle.qm_commands.specs.declared.word.Word.{Word}
use Rattle.qm_commands.specs.declared.word.Word.TheVariants as words
use Rattle.qm_dcl.specs.declared.settings.Settings.{Settings}
use Rattle.qm_dcl.specs.declared.settings.JobSettings.{JobSettings}
use Rattle.qm_dcl.specs.declared.settings.ListingSettings.{ListingSettings}
use Rattle.qm_dcl.specs.declared.settings.QueueSettings.{QueueSettings}
use Rattle.qm_dcl.specs.declared.settings.Definition.{Definition}
use Rattle.qm_dcl.specs.declared.settings.Stop.{Stop}
use Rattle.qm_dcl.specs.declared.settings.Stop.TheVariants as stop
use Rattle.qm_dcl.specs.declared.value.Side.{Side}
use Rattle.qm_dcl.specs.Forms.{with_default_margins, with_margin}
use Rattle.qm_dcl.specs.Values.{are_digits, byte_said, form_number_said, entry_said, blocks_said, short_name_said, definable_name_said, node_said, says_all, form_said, characteristic_said, pattern_said, location_said, schedule_said, queue_retain_said}

-- ---- what a qualifier gives by itself

abbrev pub job_marked : JobSettings → Word → JobSettings
job_marked job words.Restart = record job { restart = Some true }
job_marked job words.NoRestart = record job { restart = Some false }
job_marked job words.Flag = record job { flag = true }
job_marked job words.NoFlag = record job { flag = false }
job_marked job words.Hold = record job { hold = true }
job_marked job words.Release = record job { release = true }
job_marked job words.NoAfter = record job { after = Some None }
job_marked job _ = job

-- /BLOCK_LIMIT begins without limits, whatever was given before
abbrev pub queue_marked : QueueSettings → Word → QueueSettings
queue_marked queue words.Batch = record queue { batch = true }
queue_marked queue words.Start = record queue { start = true }
queue_marked queue words.BlockLimit = record queue { blocks = None }
queue_marked queue words.NoBlockLimit = record queue { blocks = Some (1, 4294967295) }
queue_marked queue words.NoRetain = record queue { retain = Some Nothing }
queue_marked queue _ = queue

-- /MARGIN begins with the margins of a form for which none are given
abbrev pub shape_marked : Shape → Word → Shape
shape_marked shape words.Margin = with_default_margins shape
shape_marked shape words.Wrap = record shape { wrap = true }
shape_marked shape words.Truncate = record shape { wrap = false }
shape_marked shape _ = shape

abbrev pub stop_marked : Option Stop → Word → Option Stop
stop_marked how words.Next = Some stop.Next
stop_marked how words.Reset = Some stop.Reset
stop_marked how words.Abort = Some stop.Abort
stop_marked how words.Requeue = Some stop.Requeue
stop_marked how _ = how

-- the kinds of queue that are listed add up
abbrev pub listing_marked : ListingSettings → Word → ListingSettings
listing_marked listing words.AllJobs = record listing { all_jobs = true }
listing_marked listing words.Batch = record listing { batch = true }
listing_marked listing words.Device = record listing { device = true }
listing_marked listing words.Generic = record listing { generic = true }
listing_marked listing _ = listing

-- a qualifier, whose value may come next
abbrev pub with_word : Settings → Word → Settings
with_word s word = record s {
  word = Some word;
  has_node = false;
  stop = stop_marked s.stop word;
  job = job_marked s.job word;
  queue_settings = queue_marked s.queue_settings word;
  definition = record s.definition { shape = shape_marked s.definition.shape word };
  listing = listing_marked s.listing word;
}

-- ---- what a value or a parameter gives, if it can be one

abbrev pub with_job : Settings → JobSettings → Settings
with_job s job = record s { job = job }

abbrev pub with_queue_settings : Settings → QueueSettings → Settings
with_queue_settings s settings = record s { queue_settings = settings }

abbrev pub with_definition : Settings → Definition → Settings
with_definition s definition = record s { definition = definition }

abbrev pub with_shape : Settings → Shape → Settings
with_shape s shape = record s { definition = record s.definition { shape = shape } }

-- the name of a queue
abbrev pub queue_given : Settings → List ℕ → Option Settings
queue_given s said = option_map (λ name. record s { queue = Some name }) (short_name_said said)

-- the number of an entry
abbrev pub entry_given : Settings → List ℕ → Option Settings
entry_given s said = option_map (λ number. record s { entry = Some number }) (entry_said said)

-- one limit is the upper one, and the lower one is then 1; of two the lower one stands first
abbrev pub blocks_with : Option (ℕ × ℕ) → ℕ → ℕ × ℕ
blocks_with None upper = (1, upper)
blocks_with (Some limits) upper = (limits.1, upper)

-- The value of a qualifier; those of a list are only judged here. The words of /SCHEDULE and /RETAIN, the keys of /MARGIN and the
-- times of /AFTER are read below, and no other qualifier that is built takes a value.
abbrev pub valued : Settings → Option Word → List ℕ → Option Settings
valued s (Some words.Queue) said = queue_given s said
valued s (Some words.Requeue) said = queue_given s said
valued s (Some words.Entry) said = entry_given s said
valued s (Some words.Name) said = option_map (λ name. with_job s (record s.job { name = Some name })) (name_of said)
valued s (Some words.Priority) said = option_map (λ number. with_job s (record s.job { priority = Some number })) (byte_said said)
valued s (Some words.Form) said = option_map (λ form. with_job s (record s.job { form = Some form })) (form_said said)
valued s (Some words.Copies) said = option_map (λ number. with_job s (record s.job { copies = number })) (byte_said said)
valued s (Some words.JobLimit) said = option_map (λ number. with_queue_settings s (record s.queue_settings { limit = Some number })) (byte_said said)
valued s (Some words.FormMounted) said = option_map (λ form. with_queue_settings s (record s.queue_settings { form = Some form })) (form_said said)
valued s (Some words.BlockLimit) said = option_map (λ number. with_queue_settings s (record s.queue_settings { blocks = Some (blocks_with s.queue_settings.blocks number) })) (blocks_said said)
valued s (Some words.On) said = option_map (λ location. with_queue_settings s (record s.queue_settings { location = Some location })) (location_said said)
valued s (Some words.Stock) said = option_map (λ name. with_definition s (record s.definition { stock = Some name })) (short_name_said said)
valued s (Some words.Length) said = option_map (λ number. with_shape s (record s.definition.shape { length = number })) (byte_said said)
valued s (Some words.Width) said = option_map (λ number. with_shape s (record s.definition.shape { width = number })) (byte_said said)
valued s (Some words.Characteristics) said = option_map (λ characteristic. s) (characteristic_said said)
valued s (Some words.Generic) said = option_map (λ name. s) (short_name_said said)
valued s _ said = None

-- all nodes, where they stand alone
abbrev pub nodes_begun : Settings → Bool → Option Settings
nodes_begun s alone = if alone && not s.has_node then Some (record s { has_node = true }) else None

-- A node on which the queue manager may run, or * for all of them. That must stand alone, with no other value behind it or in front.
abbrev pub node_given : Settings → Bool → List ℕ → Option Settings
node_given s alone said =
    if says_all said then nodes_begun s alone else option_map (λ node. record s { has_node = true }) (node_said said)

-- the order in which jobs start
abbrev pub schedule_given : Settings → List ℕ → Option Settings
schedule_given s raised = option_map (λ by_size. with_queue_settings s (record s.queue_settings { by_size = Some by_size })) (schedule_said raised)

-- which jobs a queue keeps
abbrev pub queue_retain_given : Settings → List ℕ → Option Settings
queue_retain_given s raised = option_map (λ retain. with_queue_settings s (record s.queue_settings { retain = Some retain })) (queue_retain_said raised)

-- whether a job is kept
abbrev pub with_retain : Settings → JobRetain → Settings
with_retain s retain = with_job s (record s.job { retain = Some retain })

-- the moment until which a job is kept
abbrev pub until_given : Settings → Option ℕ → Option Settings
until_given s moment = option_map (λ at. with_retain s (Until at)) moment

-- the moment before which a job doesn't start
abbrev pub after_given : Settings → Option ℕ → Option Settings
after_given s moment = option_map (λ at. with_job s (record s.job { after = Some (Some at) })) moment

-- the margin of a side
abbrev pub margin_given : Settings → Side → List ℕ → Option Settings
margin_given s side said = option_map (λ margin. with_shape s (with_margin s.definition.shape side margin)) (byte_said said)

-- the name of a form or a characteristic
abbrev pub definable_given : Settings → List ℕ → Option Settings
definable_given s said = option_map (λ name. with_definition s (record s.definition { name = Some name })) (definable_name_said said)

-- a form: its name, and behind it its number
abbrev pub form_given : Settings → Option (List ℕ) → List ℕ → Option Settings
form_given s None said = definable_given s said
form_given s (Some name) said = option_map (λ number. with_definition s (record s.definition { form_number = Some number })) (form_number_said said)

-- a characteristic: its name, and behind it its number
abbrev pub characteristic_given : Settings → Option (List ℕ) → List ℕ → Option Settings
characteristic_given s None said = definable_given s said
characteristic_given s (Some name) said = option_map (λ number. with_definition s (record s.definition { characteristic_number = Some number })) (byte_said said)

-- two queues: the target, and behind it the source
abbrev pub merge_given : Settings → Option (List ℕ) → List ℕ → Option Settings
merge_given s None said = queue_given s said
merge_given s (Some target) said = option_map (λ name. record s { source = Some name }) (short_name_said said)

-- a file
abbrev pub file_given : Settings → List ℕ → Option Settings
file_given s said = option_map (λ file. record s { file = Some file }) (file_name_of said)

-- a pattern of names
abbrev pub pattern_given : Settings → List ℕ → Option Settings
pattern_given s said = option_map (λ pattern. record s { listing = record s.listing { pattern = Some pattern } }) (pattern_said said)

-- a parameter; for SHOW ENTRY what is no number is a pattern
abbrev pub parametered : Settings → Command → List ℕ → Option Settings
parametered s command.Submit said = file_given s said
parametered s command.Print said = file_given s said
parametered s command.SetEntry said = entry_given s said
parametered s command.ShowEntry said = if are_digits said then entry_given s said else pattern_given s said
parametered s command.ShowQueue said = pattern_given s said
parametered s command.ShowForms said = pattern_given s said
parametered s command.ShowCharacteristics said = pattern_given s said
parametered s command.InitializeQueue said = queue_given s said
parametered s command.SetQueue said = queue_given s said
parametered s command.StartQueue said = queue_given s said
parametered s command.StopQueue said = queue_given s said
parametered s command.DeleteQueue said = queue_given s said
parametered s command.AssignMerge said = merge_given s s.queue said
parametered s command.DefineForm said = form_given s s.definition.name said
parametered s command.DefineCharacteristic said = characteristic_given s s.definition.name said
parametered s command.DeleteForm said = definable_given s said
parametered s command.DeleteCharacteristic said = definable_given s said
parametered s _ said = None
