-- How the words of commands are spelled, in full. How they may be cut stands in Names.
-- DCL Dictionary, on the commands of queues, jobs, forms and characteristics.
use Rattle.std.specs.Prelude.{ℕ, List, codes, Option, None, Some}
use Rattle.qm_commands.specs.declared.table.Verb.{Verb}
use Rattle.qm_commands.specs.declared.table.Verb.TheVariants as verbs
use Rattle.qm_commands.specs.declared.word.Word.{Word}
use Rattle.qm_commands.specs.declared.word.Word.TheVariants as words

-- a verb
abbrev pub verb_spelling : Verb → List ℕ
verb_spelling verbs.Initialize = codes "INITIALIZE"
verb_spelling verbs.Set = codes "SET"
verb_spelling verbs.Start = codes "START"
verb_spelling verbs.Stop = codes "STOP"
verb_spelling verbs.Delete = codes "DELETE"
verb_spelling verbs.Assign = codes "ASSIGN"
verb_spelling verbs.Define = codes "DEFINE"
verb_spelling verbs.Submit = codes "SUBMIT"
verb_spelling verbs.Print = codes "PRINT"
verb_spelling verbs.Show = codes "SHOW"

-- the name of an option or of a qualifier
abbrev pub spelling : Word → List ℕ
spelling words.Queue = codes "QUEUE"
spelling words.Manager = codes "MANAGER"
spelling words.Managers = codes "MANAGERS"
spelling words.Merge = codes "MERGE"
spelling words.Form = codes "FORM"
spelling words.Characteristic = codes "CHARACTERISTIC"
spelling words.Characteristics = codes "CHARACTERISTICS"
spelling words.ShownCharacteristics = codes "CHARACTERISTICS"
spelling words.Entry = codes "ENTRY"
spelling words.Batch = codes "BATCH"
spelling words.Device = codes "DEVICE"
spelling words.Generic = codes "GENERIC"
spelling words.AllJobs = codes "ALL_JOBS"
spelling words.On = codes "ON"
spelling words.Start = codes "START"
spelling words.JobLimit = codes "JOB_LIMIT"
spelling words.NoCharacteristics = codes "NOCHARACTERISTICS"
spelling words.FormMounted = codes "FORM_MOUNTED"
spelling words.BlockLimit = codes "BLOCK_LIMIT"
spelling words.NoBlockLimit = codes "NOBLOCK_LIMIT"
spelling words.Schedule = codes "SCHEDULE"
spelling words.Retain = codes "RETAIN"
spelling words.NoRetain = codes "NORETAIN"
spelling words.Next = codes "NEXT"
spelling words.Reset = codes "RESET"
spelling words.Abort = codes "ABORT"
spelling words.Requeue = codes "REQUEUE"
spelling words.Stock = codes "STOCK"
spelling words.Length = codes "LENGTH"
spelling words.Width = codes "WIDTH"
spelling words.Margin = codes "MARGIN"
spelling words.Wrap = codes "WRAP"
spelling words.Truncate = codes "TRUNCATE"
spelling words.Name = codes "NAME"
spelling words.Priority = codes "PRIORITY"
spelling words.After = codes "AFTER"
spelling words.NoAfter = codes "NOAFTER"
spelling words.Hold = codes "HOLD"
spelling words.Release = codes "RELEASE"
spelling words.Restart = codes "RESTART"
spelling words.NoRestart = codes "NORESTART"
spelling words.Copies = codes "COPIES"
spelling words.Flag = codes "FLAG"
spelling words.NoFlag = codes "NOFLAG"
spelling words.Notify = codes "NOTIFY"
spelling words.NoNotify = codes "NONOTIFY"
spelling words.Identify = codes "IDENTIFY"
spelling words.NoIdentify = codes "NOIDENTIFY"
spelling words.NoLogFile = codes "NOLOG_FILE"
spelling words.NoPrinter = codes "NOPRINTER"
spelling words.Keep = codes "KEEP"

-- the other form of a qualifier that has a positive and a negative one: where both are given, the last one counts
abbrev pub undone_by : Word → Option Word
undone_by words.Characteristics = Some words.NoCharacteristics
undone_by words.NoCharacteristics = Some words.Characteristics
undone_by words.BlockLimit = Some words.NoBlockLimit
undone_by words.NoBlockLimit = Some words.BlockLimit
undone_by words.Retain = Some words.NoRetain
undone_by words.NoRetain = Some words.Retain
undone_by words.After = Some words.NoAfter
undone_by words.NoAfter = Some words.After
undone_by words.Restart = Some words.NoRestart
undone_by words.NoRestart = Some words.Restart
undone_by words.Flag = Some words.NoFlag
undone_by words.NoFlag = Some words.Flag
undone_by words.Notify = Some words.NoNotify
undone_by words.NoNotify = Some words.Notify
undone_by words.Identify = Some words.NoIdentify
undone_by words.NoIdentify = Some words.Identify
undone_by _ = None
