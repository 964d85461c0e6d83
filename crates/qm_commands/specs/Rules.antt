-- Which qualifiers a command takes, what value each takes, and which exclude each other.
-- DCL Dictionary, on the qualifiers of the commands of queues, jobs, forms and characteristics.
-- This site's own: qualifiers of jobs that are taken without effect.
use Rattle.std.specs.Prelude.{ℕ, Bool, true, false, List, [], ◌∷◌, ◌++◌}
use Rattle.qm_commands.specs.declared.table.Verb.{Verb}
use Rattle.qm_commands.specs.declared.table.Verb.TheVariants as verb
use Rattle.qm_commands.specs.declared.table.Command.{Command}
use Rattle.qm_commands.specs.declared.table.Command.TheVariants as command
use Rattle.qm_commands.specs.declared.rules.Takes.{Takes}
use Rattle.qm_commands.specs.declared.rules.Takes.TheVariants as takes
use Rattle.qm_commands.specs.declared.word.Word.{Word}
use Rattle.qm_commands.specs.declared.word.Word.TheVariants as words

-- how many values may be given
abbrev pub most_values : Takes → ℕ
most_values takes.Nothing = 0
most_values takes.One = 1
most_values takes.Pair = 2
most_values takes.List = 65535
most_values takes.Keyed = 1
most_values takes.KeyedList = 65535

-- a value may have = and a value of its own behind it
abbrev pub may_have_key : Takes → Bool
may_have_key takes.Nothing = false
may_have_key takes.One = false
may_have_key takes.Pair = false
may_have_key takes.List = false
may_have_key takes.Keyed = true
may_have_key takes.KeyedList = true

-- a value must be given
abbrev pub needs_value : Takes → Bool
needs_value takes.Nothing = false
needs_value takes.One = true
needs_value takes.Pair = true
needs_value takes.List = true
needs_value takes.Keyed = true
needs_value takes.KeyedList = true

-- what can be set for a queue
abbrev pub queue_settings : List (Word × Takes)
queue_settings =
    (words.JobLimit, takes.One) ∷ (words.Characteristics, takes.List)
    ∷ (words.NoCharacteristics, takes.Nothing) ∷ (words.FormMounted, takes.One) ∷ (words.BlockLimit, takes.Pair)
    ∷ (words.NoBlockLimit, takes.Nothing) ∷ (words.Schedule, takes.One) ∷ (words.Retain, takes.One)
    ∷ (words.NoRetain, takes.Nothing) ∷ []

-- what can be set for a job when it is submitted
abbrev pub job_settings : List (Word × Takes)
job_settings =
    (words.Queue, takes.One) ∷ (words.Name, takes.One) ∷ (words.Priority, takes.One) ∷ (words.After, takes.One)
    ∷ (words.Hold, takes.Nothing) ∷ (words.Retain, takes.Keyed) ∷ (words.Restart, takes.Nothing)
    ∷ (words.NoRestart, takes.Nothing) ∷ (words.Characteristics, takes.List) ∷ (words.Notify, takes.Nothing)
    ∷ (words.NoNotify, takes.Nothing) ∷ (words.Identify, takes.Nothing) ∷ (words.NoIdentify, takes.Nothing)
    ∷ (words.NoLogFile, takes.Nothing) ∷ (words.NoPrinter, takes.Nothing) ∷ (words.Keep, takes.Nothing) ∷ []

-- the settings that a command shares with others
abbrev pub settings : Command → List (Word × Takes)
settings command.InitializeQueue = queue_settings
settings command.SetQueue = queue_settings
settings command.StartQueue = queue_settings
settings command.Submit = job_settings
settings command.Print = job_settings
settings command.SetEntry = []
settings command.StartManager = []
settings command.StopQueue = []
settings command.DeleteQueue = []
settings command.DeleteForm = []
settings command.DeleteCharacteristic = []
settings command.DeleteEntry = []
settings command.AssignMerge = []
settings command.DefineForm = []
settings command.DefineCharacteristic = []
settings command.ShowForms = []
settings command.ShowCharacteristics = []
settings command.ShowManagers = []
settings command.ShowQueue = []
settings command.ShowEntry = []

-- the options and the qualifiers of a command, but for those settings; options of the verb that exclude each other stand in each
abbrev pub own_rules : Command → List (Word × Takes)
own_rules command.InitializeQueue =
    (words.Queue, takes.Nothing) ∷ (words.Batch, takes.Nothing) ∷ (words.Generic, takes.List)
    ∷ (words.On, takes.One) ∷ (words.Start, takes.Nothing) ∷ []
own_rules command.SetQueue = []
own_rules command.SetEntry =
    (words.Release, takes.Nothing) ∷ (words.Hold, takes.Nothing) ∷ (words.After, takes.One)
    ∷ (words.NoAfter, takes.Nothing) ∷ (words.Priority, takes.One) ∷ (words.Name, takes.One)
    ∷ (words.Characteristics, takes.List) ∷ (words.Form, takes.One) ∷ (words.Requeue, takes.One)
    ∷ (words.Restart, takes.Nothing) ∷ (words.NoRestart, takes.Nothing) ∷ (words.Retain, takes.Keyed) ∷ []
own_rules command.StartManager =
    (words.Queue, takes.Nothing) ∷ (words.Manager, takes.Nothing) ∷ (words.On, takes.List) ∷ []
own_rules command.StartQueue = (words.Queue, takes.Nothing) ∷ []
own_rules command.StopQueue =
    (words.Queue, takes.Nothing) ∷ (words.Next, takes.Nothing) ∷ (words.Reset, takes.Nothing)
    ∷ (words.Abort, takes.Nothing) ∷ (words.Requeue, takes.Nothing) ∷ (words.Entry, takes.One) ∷ []
own_rules command.DeleteQueue =
    (words.Queue, takes.Nothing) ∷ (words.Form, takes.Nothing) ∷ (words.Characteristic, takes.Nothing)
    ∷ (words.Entry, takes.One) ∷ []
own_rules command.DeleteForm =
    (words.Queue, takes.Nothing) ∷ (words.Form, takes.Nothing) ∷ (words.Characteristic, takes.Nothing)
    ∷ (words.Entry, takes.One) ∷ []
own_rules command.DeleteCharacteristic =
    (words.Queue, takes.Nothing) ∷ (words.Form, takes.Nothing) ∷ (words.Characteristic, takes.Nothing)
    ∷ (words.Entry, takes.One) ∷ []
own_rules command.DeleteEntry =
    (words.Queue, takes.Nothing) ∷ (words.Form, takes.Nothing) ∷ (words.Characteristic, takes.Nothing)
    ∷ (words.Entry, takes.One) ∷ []
own_rules command.AssignMerge = (words.Merge, takes.Nothing) ∷ []
own_rules command.DefineForm =
    (words.Form, takes.Nothing) ∷ (words.Characteristic, takes.Nothing) ∷ (words.Stock, takes.One)
    ∷ (words.Length, takes.One) ∷ (words.Width, takes.One) ∷ (words.Margin, takes.KeyedList)
    ∷ (words.Wrap, takes.Nothing) ∷ (words.Truncate, takes.Nothing) ∷ []
own_rules command.DefineCharacteristic = (words.Form, takes.Nothing) ∷ (words.Characteristic, takes.Nothing) ∷ []
own_rules command.Submit = []
own_rules command.Print =
    (words.Form, takes.One) ∷ (words.Copies, takes.One) ∷ (words.Flag, takes.Nothing)
    ∷ (words.NoFlag, takes.Nothing) ∷ []
own_rules command.ShowForms =
    (words.Form, takes.Nothing) ∷ (words.ShownCharacteristics, takes.Nothing) ∷ (words.Managers, takes.Nothing)
    ∷ []
own_rules command.ShowCharacteristics =
    (words.Form, takes.Nothing) ∷ (words.ShownCharacteristics, takes.Nothing) ∷ (words.Managers, takes.Nothing)
    ∷ []
own_rules command.ShowManagers =
    (words.Form, takes.Nothing) ∷ (words.ShownCharacteristics, takes.Nothing) ∷ (words.Managers, takes.Nothing)
    ∷ []
own_rules command.ShowQueue =
    (words.AllJobs, takes.Nothing) ∷ (words.Batch, takes.Nothing) ∷ (words.Device, takes.Nothing)
    ∷ (words.Generic, takes.Nothing) ∷ []
own_rules command.ShowEntry = []

-- all that stands behind a / in a command
abbrev pub rules_of : Command → List (Word × Takes)
rules_of c = own_rules c ++ settings c

-- which exclude each other, options among them
abbrev pub exclusions_of : Verb → List (Word × Word)
exclusions_of verb.Initialize = (words.Generic, words.On) ∷ []
exclusions_of verb.Set = (words.Release, words.Hold) ∷ (words.Release, words.After) ∷ []
exclusions_of verb.Start = []
exclusions_of verb.Stop =
    (words.Next, words.Reset) ∷ (words.Next, words.Abort) ∷ (words.Next, words.Requeue) ∷ (words.Reset, words.Abort)
    ∷ (words.Reset, words.Requeue) ∷ (words.Abort, words.Requeue) ∷ (words.Entry, words.Next) ∷ (words.Entry, words.Reset) ∷ []
exclusions_of verb.Delete =
    (words.Queue, words.Form) ∷ (words.Queue, words.Characteristic) ∷ (words.Queue, words.Entry)
    ∷ (words.Form, words.Characteristic) ∷ (words.Form, words.Entry) ∷ (words.Characteristic, words.Entry) ∷ []
exclusions_of verb.Assign = []
exclusions_of verb.Define = (words.Form, words.Characteristic) ∷ (words.Wrap, words.Truncate) ∷ []
exclusions_of verb.Submit = []
exclusions_of verb.Print = []
exclusions_of verb.Show =
    (words.Form, words.ShownCharacteristics) ∷ (words.Form, words.Managers) ∷ (words.ShownCharacteristics, words.Managers) ∷ []
