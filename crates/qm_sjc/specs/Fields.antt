-- Which items a function takes, and what value each has.
-- OpenVMS System Services Reference Manual, $SNDJBC and $GETQUI, on item codes. This site's own: the codes, and what bytes a value has.
use Rattle.std.specs.Prelude.{ℕ, List, [], ◌∷◌}
use Rattle.qm_values.specs.declared.codes.TheConstants.{QUEUE, FILE, JOB_NAME, PRIORITY, AFTER, HOLD, RETAIN, RESTART, CHARACTERISTIC, FORM, COPIES, FLAG, KIND, NODE, DEVICE, TARGET, JOB_LIMIT, BLOCK_LOWER, BLOCK_UPPER, BY_SIZE, QUEUE_RETAIN, START, ENTRY, HOW, REQUEUE, TO_QUEUE, NAME, NUMBER, STOCK, SHAPE, BYTES, LINES, SEARCH, RELEASE}
use Rattle.qm_values.specs.declared.holds.Holds.{Holds}
use Rattle.qm_values.specs.declared.holds.Holds.TheVariants as holds
use Rattle.qm_kinds.specs.declared.request_kind.RequestKind.TheVariants as requests
use Rattle.qm_values.specs.declared.function.Function.{Function}
use Rattle.qm_values.specs.declared.function.Function.TheVariants as function

abbrev pub fields_of : Function → List (ℕ × Holds)
fields_of (function.Request requests.Append) = (FILE, holds.File) ∷ (BYTES, holds.Bytes) ∷ []
fields_of (function.Request requests.Fill) = (FILE, holds.File) ∷ (LINES, holds.Short) ∷ []
fields_of (function.Request requests.Drop) = (FILE, holds.File) ∷ []
fields_of (function.Request requests.DefineForm) =
    (NAME, holds.DefinableName) ∷ (NUMBER, holds.Short) ∷ (STOCK, holds.ShortName) ∷ (SHAPE, holds.Shape) ∷ []
fields_of (function.Request requests.DeleteForm) = (NAME, holds.DefinableName) ∷ []
fields_of (function.Request requests.DefineCharacteristic) = (NAME, holds.DefinableName) ∷ (NUMBER, holds.CharacteristicNumber) ∷ []
fields_of (function.Request requests.DeleteCharacteristic) = (NAME, holds.DefinableName) ∷ []
fields_of (function.Request requests.InitializeQueue) =
    (QUEUE, holds.ShortName) ∷ (KIND, holds.QueueKind) ∷ (NODE, holds.NodeName) ∷ (DEVICE, holds.ShortName) ∷ (TARGET, holds.ShortName)
    ∷ (START, holds.Nothing) ∷ (JOB_LIMIT, holds.Byte) ∷ (CHARACTERISTIC, holds.Characteristic) ∷ (FORM, holds.Reference)
    ∷ (BLOCK_LOWER, holds.Long) ∷ (BLOCK_UPPER, holds.Long) ∷ (BY_SIZE, holds.Truth) ∷ (QUEUE_RETAIN, holds.QueueRetain) ∷ []
fields_of (function.Request requests.SetQueue) =
    (QUEUE, holds.ShortName) ∷ (JOB_LIMIT, holds.Byte) ∷ (CHARACTERISTIC, holds.Characteristic) ∷ (FORM, holds.Reference)
    ∷ (BLOCK_LOWER, holds.Long) ∷ (BLOCK_UPPER, holds.Long) ∷ (BY_SIZE, holds.Truth) ∷ (QUEUE_RETAIN, holds.QueueRetain) ∷ []
fields_of (function.Request requests.StartQueue) =
    (QUEUE, holds.ShortName) ∷ (JOB_LIMIT, holds.Byte) ∷ (CHARACTERISTIC, holds.Characteristic) ∷ (FORM, holds.Reference)
    ∷ (BLOCK_LOWER, holds.Long) ∷ (BLOCK_UPPER, holds.Long) ∷ (BY_SIZE, holds.Truth) ∷ (QUEUE_RETAIN, holds.QueueRetain) ∷ []
fields_of (function.Request requests.StopQueue) = (QUEUE, holds.ShortName) ∷ (HOW, holds.How) ∷ []
fields_of (function.Request requests.AbortJob) = (QUEUE, holds.ShortName) ∷ (ENTRY, holds.Long) ∷ (REQUEUE, holds.Nothing) ∷ []
fields_of (function.Request requests.DeleteQueue) = (QUEUE, holds.ShortName) ∷ []
fields_of (function.Request requests.Merge) = (TO_QUEUE, holds.ShortName) ∷ (QUEUE, holds.ShortName) ∷ []
fields_of (function.Request requests.Submit) =
    (KIND, holds.JobKind) ∷ (QUEUE, holds.ShortName) ∷ (FILE, holds.File) ∷ (JOB_NAME, holds.Name) ∷ (PRIORITY, holds.Byte)
    ∷ (AFTER, holds.Moment) ∷ (HOLD, holds.Nothing) ∷ (RETAIN, holds.JobRetain) ∷ (RESTART, holds.Truth)
    ∷ (CHARACTERISTIC, holds.Characteristic) ∷ (FORM, holds.Reference) ∷ (COPIES, holds.Byte) ∷ (FLAG, holds.Nothing) ∷ []
fields_of (function.Request requests.SetEntry) =
    (ENTRY, holds.Long) ∷ (RELEASE, holds.Nothing) ∷ (HOLD, holds.Nothing) ∷ (AFTER, holds.Moment) ∷ (PRIORITY, holds.Byte)
    ∷ (JOB_NAME, holds.Name) ∷ (CHARACTERISTIC, holds.Characteristic) ∷ (FORM, holds.Reference) ∷ (QUEUE, holds.ShortName)
    ∷ (RESTART, holds.Truth) ∷ (RETAIN, holds.JobRetain) ∷ []
fields_of (function.Request requests.DeleteEntry) = (ENTRY, holds.Long) ∷ []
fields_of function.DisplayQueue = (SEARCH, holds.Pattern) ∷ []
fields_of function.DisplayJob = []
fields_of function.DisplayEntry = (SEARCH, holds.Pattern) ∷ []
fields_of function.DisplayForm = (SEARCH, holds.Pattern) ∷ []
fields_of function.DisplayCharacteristic = (SEARCH, holds.Pattern) ∷ []
fields_of function.DisplayManager = []
fields_of function.CancelOperation = []
