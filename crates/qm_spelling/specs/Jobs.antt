-- Commands of jobs.
-- DCL Dictionary, SUBMIT, PRINT, SET ENTRY and DELETE/ENTRY.
use Rattle.std.specs.Prelude.{ℕ, Bool, true, false, ◌==◌, if◌then◌else◌, List, [], ◌∷◌, ◌++◌, codes, decimal, Option, None, Some, option_map, bytes_eq}
use Rattle.qm_kinds.specs.Files.{file_name_text}
use Rattle.qm_model.specs.Common.{JobKind, JobRetain, EntryChange, Job, NameOrNumber}
use Rattle.qm_kinds.specs.declared.entry.JobKind.TheVariants.{Batch, Print}
use Rattle.qm_kinds.specs.declared.entry.JobRetain.TheVariants.{Default, Always, Failed, Until}
use Rattle.qm_commands.specs.declared.word.Word.TheVariants as words
use Rattle.qm_dcl.specs.Submitting.{default_queue}
use Rattle.qm_sayable.specs.Times.{time_text}
use Rattle.qm_spelling.specs.Pieces.{marked, valued, reference_text, references_text}

-- whether a job is kept
abbrev pub job_retain_text : JobRetain → List ℕ
job_retain_text Default = codes "DEFAULT"
job_retain_text Always = codes "ALWAYS"
job_retain_text Failed = codes "ERROR"
job_retain_text (Until moment) = codes "UNTIL=" ++ time_text moment

-- whether a job may start again, where it is said
abbrev pub restart_text : Option Bool → List ℕ
restart_text None = []
restart_text (Some restart) = if restart then marked words.Restart true else marked words.NoRestart true

-- ---- SUBMIT and PRINT

-- a name, unless it is the one that is meant where none is given
abbrev pub unless_default : List ℕ → List ℕ → Option (List ℕ)
unless_default default name = if bytes_eq name default then None else Some name

-- a number, unless it is the one that is meant where none is given
abbrev pub number_unless_default : ℕ → ℕ → Option ℕ
number_unless_default default number = if number == default then None else Some number

-- whether a submitted job is kept, unless it is as the queue says
abbrev pub retain_unless_default : JobRetain → Option JobRetain
retain_unless_default Default = None
retain_unless_default Always = Some Always
retain_unless_default Failed = Some Failed
retain_unless_default (Until moment) = Some (Until moment)

-- whether a job may start again, unless it is as for all jobs of its kind
abbrev pub restart_unless_default : JobKind → Bool → Option Bool
restart_unless_default Batch restart = if restart then Some true else None
restart_unless_default Print restart = if restart then None else Some false

-- the characteristics that a job asks for, where it asks for some
abbrev pub job_characteristics_text : List NameOrNumber → List ℕ
job_characteristics_text [] = []
job_characteristics_text (first ∷ others) = valued words.Characteristics (Some (references_text (first ∷ others)))

-- the queue of a job, its name and its priority
abbrev pub job_place_text : Job → List ℕ
job_place_text job =
    valued words.Queue (unless_default (default_queue job.kind) job.queue)
    ++ valued words.Name (unless_default job.file.name job.name)
    ++ valued words.Priority (option_map decimal (number_unless_default 100 job.priority))

-- for what a job waits
abbrev pub job_waiting_text : Job → List ℕ
job_waiting_text job = valued words.After (option_map time_text job.after) ++ marked words.Hold job.hold

-- what becomes of a job that ends, and what it needs
abbrev pub job_terms_text : Job → List ℕ
job_terms_text job =
    valued words.Retain (option_map job_retain_text (retain_unless_default job.retain))
    ++ restart_text (restart_unless_default job.kind job.restart)
    ++ job_characteristics_text job.characteristics

-- the qualifiers of jobs of both kinds
abbrev pub job_settings_text : Job → List ℕ
job_settings_text job = job_place_text job ++ job_waiting_text job ++ job_terms_text job

-- the qualifiers of print jobs alone
abbrev pub print_settings_text : Job → List ℕ
print_settings_text job =
    valued words.Form (option_map reference_text job.form)
    ++ valued words.Copies (option_map decimal (number_unless_default 1 job.copies))
    ++ marked words.Flag job.flag

-- a job that is submitted
abbrev pub job_text : JobKind → Job → List ℕ
job_text Batch job = codes "SUBMIT " ++ file_name_text job.file ++ job_settings_text job
job_text Print job = codes "PRINT " ++ file_name_text job.file ++ job_settings_text job ++ print_settings_text job

-- ---- SET ENTRY

-- the moment before which the job doesn't start, or that it waits for none
abbrev pub entry_after_text : Option (Option ℕ) → List ℕ
entry_after_text None = []
entry_after_text (Some None) = marked words.NoAfter true
entry_after_text (Some (Some moment)) = valued words.After (Some (time_text moment))

-- for what an entry waits
abbrev pub entry_waiting_text : EntryChange → List ℕ
entry_waiting_text change = marked words.Release change.release ++ marked words.Hold change.hold ++ entry_after_text change.after

-- the priority of an entry, its name, and what it needs
abbrev pub entry_needs_text : EntryChange → List ℕ
entry_needs_text change =
    valued words.Priority (option_map decimal change.priority)
    ++ valued words.Name change.name
    ++ valued words.Characteristics (option_map references_text change.characteristics)
    ++ valued words.Form (option_map reference_text change.form)

-- the queue to which an entry is moved, and what becomes of its job
abbrev pub entry_terms_text : EntryChange → List ℕ
entry_terms_text change =
    valued words.Requeue change.queue
    ++ restart_text change.restart
    ++ valued words.Retain (option_map job_retain_text change.retain)

-- the qualifiers of what is changed of an entry
abbrev pub entry_settings_text : EntryChange → List ℕ
entry_settings_text change = entry_waiting_text change ++ entry_needs_text change ++ entry_terms_text change

-- an entry that is changed
abbrev pub set_entry_text : ℕ → EntryChange → List ℕ
set_entry_text entry change = codes "SET ENTRY " ++ decimal entry ++ entry_settings_text change
