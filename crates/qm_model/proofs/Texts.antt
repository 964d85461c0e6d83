-- What is printed of each reply, refusal, state and row, by the rules for their texts.
use Rattle.std.proofs.Common.{◌≡◌, [], ◌∷◌, refl, map, None, Some, codes}
use Rattle.std.specs.Fmt.{digits}
use Rattle.qm_model.specs.Common.{Pending, Holding, Timed, Running, Aborting, Retained, Finish, FileName, Queue, Stopped, Started, Paused, Stopping, Name, Number, first_form, first_queue}
use Rattle.qm_kinds.specs.declared.query.Listing.TheVariants as listing
use Rattle.qm_kinds.specs.declared.query.Row.TheVariants as row
use Rattle.qm_kinds.specs.declared.queue.QueueKind.TheVariants as kind
use Rattle.qm_kinds.specs.declared.refusal.Holder.TheVariants as holder
use Rattle.qm_kinds.specs.declared.refusal.ParseKind.TheVariants as parse
use Rattle.qm_kinds.specs.declared.refusal.Refusal.TheVariants as refused
use Rattle.qm_kinds.specs.declared.reply.Act.TheVariants as act
use Rattle.qm_model.specs.Calendar.{date_from_month, date_from_year, date_of_day}
use Rattle.qm_model.specs.MomentText.{month_letters, moment_text}
use Rattle.qm_model.specs.Transcript.{reply_lines, turn_text}
use Rattle.qm_model.specs.Words.{status_text, act_text, row_text, refusal_line}

abbrev job_file : FileName
job_file = record { name = codes "JOB"; extension = Some (codes "COM") }

-- ---- first lines of replies

pub filed : act_text (act.Filed job_file 9) ≡ codes "file JOB.COM, 9 bytes"
unfolding digits
filed = refl

pub filed_without_a_type : act_text (act.Filed (record { name = codes "JOB"; extension = None }) 0) ≡ codes "file JOB, 0 bytes"
unfolding digits
filed_without_a_type = refl

pub file_dropped : act_text (act.Dropped job_file) ≡ codes "file JOB.COM dropped"
unfolding digits
file_dropped = refl

pub form_defined : act_text (act.FormDefined (codes "LETTER")) ≡ codes "form LETTER defined"
unfolding digits
form_defined = refl

pub form_deleted : act_text (act.FormDeleted (codes "LETTER")) ≡ codes "form LETTER deleted"
unfolding digits
form_deleted = refl

pub characteristic_defined : act_text (act.CharacteristicDefined (codes "DUPLEX")) ≡ codes "characteristic DUPLEX defined"
unfolding digits
characteristic_defined = refl

pub characteristic_deleted : act_text (act.CharacteristicDeleted (codes "DUPLEX")) ≡ codes "characteristic DUPLEX deleted"
unfolding digits
characteristic_deleted = refl

pub queue_started : act_text (act.QueueIs (codes "LP") Started) ≡ codes "queue LP started"
unfolding digits
queue_started = refl

pub queue_stopped : act_text (act.QueueIs (codes "LP") Stopped) ≡ codes "queue LP stopped"
unfolding digits
queue_stopped = refl

pub queue_paused : act_text (act.QueueIs (codes "LP") Paused) ≡ codes "queue LP paused"
unfolding digits
queue_paused = refl

pub queue_stopping : act_text (act.QueueIs (codes "LP") Stopping) ≡ codes "queue LP stopping"
unfolding digits
queue_stopping = refl

pub queue_deleted : act_text (act.QueueDeleted (codes "LP")) ≡ codes "queue LP deleted"
unfolding digits
queue_deleted = refl

pub entry_aborting : act_text (act.EntryAborting 12) ≡ codes "entry 12 aborting"
unfolding digits
entry_aborting = refl

pub moved : act_text (act.Moved 3) ≡ codes "3 entries moved"
unfolding digits
moved = refl

pub submitted : act_text (act.Submitted (codes "JOB") (codes "SYS$BATCH") 1 Pending) ≡ codes "Job JOB (queue SYS$BATCH, entry 1) pending"
unfolding digits
submitted = refl

pub submitted_for_a_moment : act_text (act.Submitted (codes "JOB") (codes "SYS$BATCH") 1 (Timed 540021600000)) ≡ codes "Job JOB (queue SYS$BATCH, entry 1) holding until  1-JAN-2030 12:00:00.00"
unfolding digits moment_text month_letters date_of_day date_from_year date_from_month
submitted_for_a_moment = refl

pub entry_held : act_text (act.EntryIs 4 Holding) ≡ codes "entry 4 holding"
unfolding digits
entry_held = refl

pub entry_deleted : act_text (act.EntryDeleted 4) ≡ codes "entry 4 deleted"
unfolding digits
entry_deleted = refl

pub marked : act_text (act.Marked 7 (codes "HALF")) ≡ codes "run 7 mark HALF"
unfolding digits
marked = refl

pub run_completed : act_text (act.RunCompleted 7 1) ≡ codes "run 7 completed, status 1"
unfolding digits
run_completed = refl

pub run_retained : act_text (act.RunRetained 7 44) ≡ codes "run 7 retained, status 44"
unfolding digits
run_retained = refl

pub run_requeued : act_text (act.RunRequeued 7) ≡ codes "run 7 requeued"
unfolding digits
run_requeued = refl

pub run_removed : act_text (act.RunRemoved 7) ≡ codes "run 7 removed"
unfolding digits
run_removed = refl

pub ticked : act_text act.Ticked ≡ codes "tick"
unfolding digits
ticked = refl

pub node_started : act_text (act.NodeStarted (codes "A")) ≡ codes "node A started"
unfolding digits
node_started = refl

pub node_stopped : act_text (act.NodeStopped (codes "A")) ≡ codes "node A stopped"
unfolding digits
node_stopped = refl

pub managing : act_text (act.Managing (codes "A") 2) ≡ codes "manager on A::, epoch 2"
unfolding digits
managing = refl

pub compacted : act_text (act.Compacted 2) ≡ codes "compacted, live file 2"
unfolding digits
compacted = refl

-- ---- states of jobs

pub executing : status_text (Running (codes "LP") (codes "A") 1) ≡ codes "executing on LP"
unfolding digits moment_text month_letters date_of_day date_from_year date_from_month
executing = refl

pub aborting : status_text (Aborting (codes "LP") (codes "A") 1 Finish) ≡ codes "aborting on LP"
unfolding digits moment_text month_letters date_of_day date_from_year date_from_month
aborting = refl

pub retained : status_text (Retained 1020 None) ≡ codes "retained, status 1020"
unfolding digits moment_text month_letters date_of_day date_from_year date_from_month
retained = refl

pub retained_until : status_text (Retained 1 (Some 25690901759999)) ≡ codes "retained until 31-DEC-9999 23:59:59.99, status 1"
unfolding digits moment_text month_letters date_of_day date_from_year date_from_month
retained_until = refl

-- ---- refusals, one line each

pub refusals_are_told : map refusal_line
    (refused.NoSuchQueue (codes "LP")
    ∷ refused.NoSuchEntry 5
    ∷ refused.NoSuchForm (Name (codes "F"))
    ∷ refused.NoSuchForm (Number 9)
    ∷ refused.NoSuchCharacteristic (Name (codes "C"))
    ∷ refused.DuplicateQueue
    ∷ refused.DuplicateForm
    ∷ refused.DuplicateCharacteristic
    ∷ refused.QueueNotStopped Paused
    ∷ refused.Referenced (holder.Queue (codes "LP"))
    ∷ refused.Referenced (holder.Entry 5)
    ∷ refused.Referenced holder.Always
    ∷ refused.WrongKind
    ∷ refused.NotRunning
    ∷ refused.StaleRun 12
    ∷ refused.NoSuchFile
    ∷ refused.SpoolFull
    ∷ refused.EntriesFull
    ∷ refused.QueuesFull
    ∷ refused.NumbersSpent
    ∷ refused.NotHeld
    ∷ refused.GenericTarget (codes "GP")
    ∷ refused.BadValue
    ∷ refused.NodeDown
    ∷ refused.NoSuchNode (codes "Z")
    ∷ refused.NotRestartable
    ∷ refused.ParseFault 14 parse.Ambiguous
    ∷ refused.EntryBusy (Running (codes "LP") (codes "A") 1)
    ∷ refused.NoContext
    ∷ refused.NoMore listing.Queues
    ∷ refused.NoMore listing.Jobs
    ∷ refused.NoMore listing.Entries
    ∷ refused.NoMore listing.Forms
    ∷ refused.NoMore listing.Characteristics
    ∷ [])
    ≡ (codes "%QMAN-E-NOSUCHQUE, LP"
    ∷ codes "%QMAN-E-NOSUCHENT, 5"
    ∷ codes "%QMAN-E-NOSUCHFORM, F"
    ∷ codes "%QMAN-E-NOSUCHFORM, 9"
    ∷ codes "%QMAN-E-NOSUCHCHAR, C"
    ∷ codes "%QMAN-E-DUPQUE"
    ∷ codes "%QMAN-E-DUPFORM"
    ∷ codes "%QMAN-E-DUPCHAR"
    ∷ codes "%QMAN-E-QUENOTSTOP, paused"
    ∷ codes "%QMAN-E-REFERENCED, LP"
    ∷ codes "%QMAN-E-REFERENCED, 5"
    ∷ codes "%QMAN-E-REFERENCED, ALWAYS"
    ∷ codes "%QMAN-E-WRONGKIND"
    ∷ codes "%QMAN-E-NOTRUNNING"
    ∷ codes "%QMAN-E-STALERUN, next run 12"
    ∷ codes "%QMAN-E-NOSUCHFILE"
    ∷ codes "%QMAN-E-SPOOLFULL"
    ∷ codes "%QMAN-E-ENTRIESFULL"
    ∷ codes "%QMAN-E-QUEUESFULL"
    ∷ codes "%QMAN-E-NUMBERSSPENT"
    ∷ codes "%QMAN-E-NOTHELD"
    ∷ codes "%QMAN-E-TARGET, GP"
    ∷ codes "%QMAN-E-INVPARVAL"
    ∷ codes "%QMAN-E-NODEDOWN"
    ∷ codes "%QMAN-E-NOSUCHNODE, Z"
    ∷ codes "%QMAN-E-NORESTART"
    ∷ codes "%QMAN-E-PARSE, byte 14: ambiguous"
    ∷ codes "%QMAN-E-ENTRYBUSY, executing on LP"
    ∷ codes "%QMAN-E-NOCONTEXT"
    ∷ codes "%QMAN-E-NOMOREQUE"
    ∷ codes "%QMAN-E-NOMOREJOB"
    ∷ codes "%QMAN-E-NOMOREENT"
    ∷ codes "%QMAN-E-NOMOREFORM"
    ∷ codes "%QMAN-E-NOMORECHAR"
    ∷ [])
unfolding digits
refusals_are_told = refl

-- ---- rows of listings

abbrev print_queue : Queue
print_queue = record (first_queue (codes "A")) { name = codes "LP"; kind = kind.Print; state = Paused; device = Some (codes "LPA0"); mounted = Some (codes "DEFAULT") }

pub batch_queue_row : row_text (row.Queue (first_queue (codes "A"))) ≡ codes "batch queue SYS$BATCH, stopped, on A::"
batch_queue_row = refl

pub print_queue_row : row_text (row.Queue print_queue) ≡ codes "print queue LP, paused, on A::LPA0:, mounted form DEFAULT"
print_queue_row = refl

pub generic_batch_row : row_text (row.Queue (record print_queue { kind = kind.GenericBatch; state = Started; node = None; device = None; mounted = None })) ≡ codes "generic batch queue LP, started"
generic_batch_row = refl

pub generic_print_row : row_text (row.Queue (record print_queue { kind = kind.GenericPrint; state = Stopping; node = None; device = None; mounted = None })) ≡ codes "generic print queue LP, stopping"
generic_print_row = refl

pub form_row : row_text (row.Form (record first_form { name = codes "LETTER"; number = 12; stock = codes "WHITE" })) ≡ codes "form LETTER, number 12, stock WHITE"
unfolding digits
form_row = refl

pub characteristic_row : row_text (row.Characteristic (record { name = codes "DUPLEX"; number = 7 })) ≡ codes "characteristic DUPLEX, number 7"
unfolding digits
characteristic_row = refl

pub manager_row : row_text (row.Manager (codes "A") 3 (codes "A" ∷ codes "B" ∷ [])) ≡ codes "manager on A::, epoch 3, may run on A,B"
unfolding digits
manager_row = refl

-- ---- a turn's lines

-- a job that starts at once is first told as it was before, and then as started, each behind the node and the line's number
pub lines_of_a_submission : map (turn_text (codes "A") (Some 2)) (reply_lines (record {
  act = act.Submitted (codes "JOB") (codes "SYS$BATCH") 1 Pending;
  started = record { entry = 1; name = codes "JOB"; home = codes "SYS$BATCH"; queue = codes "FAST"; run = 9 } ∷ [];
}))
    ≡ (codes "A 2: Job JOB (queue SYS$BATCH, entry 1) pending\n" ∷ codes "A 2: Job JOB (queue SYS$BATCH, entry 1) started on FAST\n" ∷ [])
unfolding digits
lines_of_a_submission = refl
