-- What is printed of an entry, a queue, a reply, a refusal and each other row.
-- DCL Dictionary, SHOW QUEUE and SHOW ENTRY, on their displays; OpenVMS System Messages, on the names of messages.
-- This site's own: the layout of each line, and the texts of replies.
use Rattle.std.specs.Prelude.{ℕ, ◌-◌, List, [], ◌∷◌, ◌++◌, length, replicate, decimal, codes, Option, None, Some}
use Rattle.qm_kinds.specs.Files.{file_name_text}
use Rattle.qm_kinds.specs.Words.{queue_kind_text, queue_state_text, parse_kind_text}
use Rattle.qm_kinds.specs.declared.entry.Entry.{Entry}
use Rattle.qm_kinds.specs.declared.entry.EntryState.{EntryState}
use Rattle.qm_kinds.specs.declared.entry.EntryState.TheVariants.{Pending, Holding, Timed, Running, Aborting, Retained}
use Rattle.qm_kinds.specs.declared.form.Form.{Form}
use Rattle.qm_kinds.specs.declared.form.Characteristic.{Characteristic}
use Rattle.qm_kinds.specs.declared.query.Listing.{Listing}
use Rattle.qm_kinds.specs.declared.query.Listing.TheVariants as listing
use Rattle.qm_kinds.specs.declared.query.Row.{Row}
use Rattle.qm_kinds.specs.declared.query.Row.TheVariants as row
use Rattle.qm_kinds.specs.declared.queue.Queue.{Queue}
use Rattle.qm_kinds.specs.declared.queue.QueueKind.{QueueKind}
use Rattle.qm_kinds.specs.declared.queue.QueueKind.TheVariants.{Batch, Print, GenericBatch, GenericPrint}
use Rattle.qm_kinds.specs.declared.refusal.Holder.{Holder}
use Rattle.qm_kinds.specs.declared.refusal.Holder.TheVariants as holder
use Rattle.qm_kinds.specs.declared.refusal.Refusal.{Refusal}
use Rattle.qm_kinds.specs.declared.refusal.Refusal.TheVariants as refused
use Rattle.qm_kinds.specs.declared.reply.Act.{Act}
use Rattle.qm_kinds.specs.declared.reply.Act.TheVariants as act
use Rattle.qm_kinds.specs.declared.request.NameOrNumber.{NameOrNumber}
use Rattle.qm_kinds.specs.declared.request.NameOrNumber.TheVariants.{Name, Number}
use Rattle.qm_kinds.specs.declared.run.Start.{Start}
use Rattle.qm_model.specs.MomentText.{moment_text}

-- a text at the right of so many places; a longer one isn't cut
abbrev pub at_right : ℕ → List ℕ → List ℕ
at_right width text = replicate (width - length text) 32 ++ text

-- a text at the left of so many places; a longer one isn't cut
abbrev pub at_left : ℕ → List ℕ → List ℕ
at_left width text = text ++ replicate (width - length text) 32

-- names with commas between them
abbrev pub listed : List (List ℕ) → List ℕ
listed [] = []
listed (name ∷ []) = name
listed (name ∷ next ∷ names) = name ++ codes "," ++ listed (next ∷ names)

-- the state of a job
abbrev pub status_text : EntryState → List ℕ
status_text Pending = codes "pending"
status_text Holding = codes "holding"
status_text (Timed at) = codes "holding until " ++ moment_text at
status_text (Running queue node run) = codes "executing on " ++ queue
status_text (Aborting queue node run fate) = codes "aborting on " ++ queue
status_text (Retained status None) = codes "retained, status " ++ decimal status
status_text (Retained status (Some until)) = codes "retained until " ++ moment_text until ++ codes ", status " ++ decimal status

-- number, name, user, size and status
abbrev pub entry_text : Entry → List ℕ
entry_text e =
    at_right 6 (decimal e.number) ++ codes " " ++ at_left 16 e.name ++ codes " " ++ at_left 12 e.user ++ codes " "
    ++ at_right 8 (decimal e.size) ++ codes " " ++ status_text e.state

-- a name that a queue has, or none
abbrev pub name_text : Option (List ℕ) → List ℕ
name_text None = []
name_text (Some name) = name

-- where a queue stands: a batch queue on its node, and a print queue on its device there, with the form that is mounted
abbrev pub place_text : QueueKind → Queue → List ℕ
place_text Batch q = codes ", on " ++ name_text q.node ++ codes "::"
place_text Print q = codes ", on " ++ name_text q.node ++ codes "::" ++ name_text q.device ++ codes ":, mounted form " ++ name_text q.mounted
place_text GenericBatch q = []
place_text GenericPrint q = []

-- kind, name, state and place
abbrev pub queue_text : Queue → List ℕ
queue_text q = queue_kind_text q.kind ++ codes " queue " ++ q.name ++ codes ", " ++ queue_state_text q.state ++ place_text q.kind q

-- a form: its name, number and stock
abbrev pub form_text : Form → List ℕ
form_text f = codes "form " ++ f.name ++ codes ", number " ++ decimal f.number ++ codes ", stock " ++ f.stock

-- a characteristic: its name and number
abbrev pub characteristic_text : Characteristic → List ℕ
characteristic_text c = codes "characteristic " ++ c.name ++ codes ", number " ++ decimal c.number

-- the node that is queue manager, and its epoch
abbrev pub manager_text : List ℕ → ℕ → List ℕ
manager_text node epoch = codes "manager on " ++ node ++ codes "::, epoch " ++ decimal epoch

-- a row of a listing
abbrev pub row_text : Row → List ℕ
row_text (row.Queue q) = queue_text q
row_text (row.Entry e) = entry_text e
row_text (row.Form f) = form_text f
row_text (row.Characteristic c) = characteristic_text c
row_text (row.Manager node epoch may) = manager_text node epoch ++ codes ", may run on " ++ listed may

-- a job: its name, home and number
abbrev pub job_text : List ℕ → List ℕ → ℕ → List ℕ
job_text name home entry = codes "Job " ++ name ++ codes " (queue " ++ home ++ codes ", entry " ++ decimal entry ++ codes ") "

-- a job that was started
abbrev pub start_text : Start → List ℕ
start_text s = job_text s.name s.home s.entry ++ codes "started on " ++ s.queue

-- a run
abbrev pub run_text : ℕ → List ℕ
run_text run = codes "run " ++ decimal run

-- the first line of a reply
abbrev pub act_text : Act → List ℕ
act_text (act.Filed file bytes) = codes "file " ++ file_name_text file ++ codes ", " ++ decimal bytes ++ codes " bytes"
act_text (act.Dropped file) = codes "file " ++ file_name_text file ++ codes " dropped"
act_text (act.FormDefined form) = codes "form " ++ form ++ codes " defined"
act_text (act.FormDeleted form) = codes "form " ++ form ++ codes " deleted"
act_text (act.CharacteristicDefined name) = codes "characteristic " ++ name ++ codes " defined"
act_text (act.CharacteristicDeleted name) = codes "characteristic " ++ name ++ codes " deleted"
act_text (act.QueueIs queue state) = codes "queue " ++ queue ++ codes " " ++ queue_state_text state
act_text (act.QueueDeleted queue) = codes "queue " ++ queue ++ codes " deleted"
act_text (act.EntryAborting entry) = codes "entry " ++ decimal entry ++ codes " aborting"
act_text (act.Moved entries) = decimal entries ++ codes " entries moved"
act_text (act.Submitted name home entry state) = job_text name home entry ++ status_text state
act_text (act.EntryIs entry state) = codes "entry " ++ decimal entry ++ codes " " ++ status_text state
act_text (act.EntryDeleted entry) = codes "entry " ++ decimal entry ++ codes " deleted"
act_text (act.Marked run value) = run_text run ++ codes " mark " ++ value
act_text (act.RunCompleted run status) = run_text run ++ codes " completed, status " ++ decimal status
act_text (act.RunRetained run status) = run_text run ++ codes " retained, status " ++ decimal status
act_text (act.RunRequeued run) = run_text run ++ codes " requeued"
act_text (act.RunRemoved run) = run_text run ++ codes " removed"
act_text act.Ticked = codes "tick"
act_text (act.NodeStarted node) = codes "node " ++ node ++ codes " started"
act_text (act.NodeStopped node) = codes "node " ++ node ++ codes " stopped"
act_text (act.Managing node epoch) = manager_text node epoch
act_text (act.Compacted file) = codes "compacted, live file " ++ decimal file

-- a form or a characteristic, as it was asked for
abbrev pub wanted_text : NameOrNumber → List ℕ
wanted_text (Name name) = name
wanted_text (Number number) = decimal number

-- what still names a thing
abbrev pub holder_text : Holder → List ℕ
holder_text (holder.Queue name) = name
holder_text (holder.Entry number) = decimal number
holder_text holder.Always = codes "ALWAYS"

-- The end of a listing that is read row by row. That of the manager and a cancel never are, so their words are never printed.
abbrev pub no_more_text : Listing → List ℕ
no_more_text listing.Queues = codes "NOMOREQUE"
no_more_text listing.Jobs = codes "NOMOREJOB"
no_more_text listing.Entries = codes "NOMOREENT"
no_more_text listing.Forms = codes "NOMOREFORM"
no_more_text listing.Characteristics = codes "NOMORECHAR"
no_more_text listing.Manager = codes "NOMOREMAN"
no_more_text listing.Cancel = codes "NOMORECANCEL"

-- a refusal: its word, and what it tells
abbrev pub refusal_text : Refusal → List ℕ
refusal_text (refused.NoSuchQueue name) = codes "NOSUCHQUE, " ++ name
refusal_text (refused.NoSuchEntry number) = codes "NOSUCHENT, " ++ decimal number
refusal_text (refused.NoSuchForm wanted) = codes "NOSUCHFORM, " ++ wanted_text wanted
refusal_text (refused.NoSuchCharacteristic wanted) = codes "NOSUCHCHAR, " ++ wanted_text wanted
refusal_text refused.DuplicateQueue = codes "DUPQUE"
refusal_text refused.DuplicateForm = codes "DUPFORM"
refusal_text refused.DuplicateCharacteristic = codes "DUPCHAR"
refusal_text (refused.QueueNotStopped state) = codes "QUENOTSTOP, " ++ queue_state_text state
refusal_text (refused.Referenced by) = codes "REFERENCED, " ++ holder_text by
refusal_text refused.WrongKind = codes "WRONGKIND"
refusal_text refused.NotRunning = codes "NOTRUNNING"
refusal_text (refused.StaleRun next) = codes "STALERUN, next run " ++ decimal next
refusal_text refused.NoSuchFile = codes "NOSUCHFILE"
refusal_text refused.SpoolFull = codes "SPOOLFULL"
refusal_text refused.EntriesFull = codes "ENTRIESFULL"
refusal_text refused.QueuesFull = codes "QUEUESFULL"
refusal_text refused.NumbersSpent = codes "NUMBERSSPENT"
refusal_text refused.NotHeld = codes "NOTHELD"
refusal_text (refused.GenericTarget name) = codes "TARGET, " ++ name
refusal_text refused.BadValue = codes "INVPARVAL"
refusal_text refused.NodeDown = codes "NODEDOWN"
refusal_text (refused.NoSuchNode name) = codes "NOSUCHNODE, " ++ name
refusal_text refused.NotRestartable = codes "NORESTART"
refusal_text (refused.ParseFault place kind) = codes "PARSE, byte " ++ decimal place ++ codes ": " ++ parse_kind_text kind
refusal_text (refused.EntryBusy state) = codes "ENTRYBUSY, " ++ status_text state
refusal_text refused.NoContext = codes "NOCONTEXT"
refusal_text (refused.NoMore what) = no_more_text what

-- what is printed of a refusal
abbrev pub refusal_line : Refusal → List ℕ
refusal_line r = codes "%QMAN-E-" ++ refusal_text r
