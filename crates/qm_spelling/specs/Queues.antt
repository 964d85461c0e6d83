-- Commands of queues.
-- DCL Dictionary, INITIALIZE/QUEUE, SET QUEUE, START/QUEUE, STOP/QUEUE, DELETE/QUEUE and ASSIGN/MERGE.
use Rattle.std.specs.Prelude.{ℕ, Bool, true, false, ◌&&◌, ◌==◌, not, if◌then◌else◌, List, [], ◌∷◌, ◌++◌, codes, decimal, Option, None, Some, option_map}
use Rattle.qm_model.specs.Common.{NewQueue, QueueChange, QueueKind, QueueRetain, NameOrNumber, StopMode, Pause, Next, Reset}
use Rattle.qm_kinds.specs.declared.queue.QueueKind.TheVariants.{Batch, Print, GenericBatch, GenericPrint}
use Rattle.qm_kinds.specs.declared.queue.QueueRetain.TheVariants.{Nothing, Failed, All}
use Rattle.qm_commands.specs.declared.word.Word.TheVariants as words
use Rattle.qm_spelling.specs.Pieces.{marked, valued, list_text, reference_text, references_text}

-- ---- what is set for a queue

-- the characteristics of a queue, or that it has none
abbrev pub queue_characteristics_text : Option (List NameOrNumber) → List ℕ
queue_characteristics_text None = []
queue_characteristics_text (Some []) = marked words.NoCharacteristics true
queue_characteristics_text (Some (first ∷ others)) = valued words.Characteristics (Some (references_text (first ∷ others)))

-- the least and the greatest size of a job are no limits
abbrev pub are_no_limits : ℕ × ℕ → Bool
are_no_limits blocks = blocks.0 == 1 && blocks.1 == 4294967295

-- the least and the greatest size of a job, or that there is no limit
abbrev pub blocks_text : Option (ℕ × ℕ) → List ℕ
blocks_text None = []
blocks_text (Some blocks) =
    if are_no_limits blocks then marked words.NoBlockLimit true
    else valued words.BlockLimit (Some (list_text (decimal blocks.0 ∷ decimal blocks.1 ∷ [])))

-- the order in which jobs start
abbrev pub schedule_text : Option Bool → List ℕ
schedule_text None = []
schedule_text (Some true) = valued words.Schedule (Some (codes "SIZE"))
schedule_text (Some false) = valued words.Schedule (Some (codes "NOSIZE"))

-- which jobs a queue keeps
abbrev pub queue_retain_text : Option QueueRetain → List ℕ
queue_retain_text None = []
queue_retain_text (Some Nothing) = marked words.NoRetain true
queue_retain_text (Some Failed) = valued words.Retain (Some (codes "ERROR"))
queue_retain_text (Some All) = valued words.Retain (Some (codes "ALL"))

-- the qualifiers of what is set
abbrev pub queue_settings_text : QueueChange → List ℕ
queue_settings_text change =
    valued words.JobLimit (option_map decimal change.limit)
    ++ queue_characteristics_text change.characteristics
    ++ valued words.FormMounted (option_map reference_text change.form)
    ++ blocks_text change.blocks
    ++ schedule_text change.by_size
    ++ queue_retain_text change.retain

-- ---- INITIALIZE/QUEUE

-- a queue of this kind is for batch jobs
abbrev pub is_for_batch : QueueKind → Bool
is_for_batch Batch = true
is_for_batch Print = false
is_for_batch GenericBatch = true
is_for_batch GenericPrint = false

-- the queues to which a generic queue passes its jobs on
abbrev pub targets_text : List (List ℕ) → List ℕ
targets_text [] = []
targets_text (first ∷ others) = valued words.Generic (Some (list_text (first ∷ others)))

-- a device of a node
abbrev pub device_text : Option (List ℕ) → List ℕ
device_text None = []
device_text (Some device) = device ++ codes ":"

-- where a queue stands
abbrev pub location_text : Option (List ℕ) → Option (List ℕ) → List ℕ
location_text None device = []
location_text (Some node) device = valued words.On (Some (node ++ codes "::" ++ device_text device))

-- a queue that is made
abbrev pub new_queue_text : NewQueue → List ℕ
new_queue_text new =
    codes "INITIALIZE/QUEUE " ++ new.name
    ++ marked words.Batch (is_for_batch new.kind)
    ++ targets_text new.targets
    ++ location_text new.node new.device
    ++ marked words.Start new.start
    ++ queue_settings_text new.change

-- ---- the other commands of queues

-- STOP/QUEUE of a queue
abbrev pub stop_text : List ℕ → StopMode → List ℕ
stop_text name Pause = codes "STOP/QUEUE " ++ name
stop_text name Next = codes "STOP/QUEUE " ++ name ++ marked words.Next true
stop_text name Reset = codes "STOP/QUEUE " ++ name ++ marked words.Reset true

-- STOP/QUEUE of one of a queue's jobs, which ends or waits to run again
abbrev pub abort_text : List ℕ → Option ℕ → Bool → List ℕ
abort_text queue entry requeue =
    codes "STOP/QUEUE " ++ queue ++ marked words.Abort (not requeue) ++ marked words.Requeue requeue
    ++ valued words.Entry (option_map decimal entry)
