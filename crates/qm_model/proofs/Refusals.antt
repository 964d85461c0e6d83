-- Refusals of requests on literals.
use Rattle.std.proofs.Common.{◌≡◌, [], ◌∷◌, ◌++◌, true, false, Some, None, Err, refl, replicate, codes}
use Rattle.qm_kinds.specs.declared.entry.JobKind.TheVariants.{Print}
use Rattle.qm_model.specs.Common.{FileName, Number, System, applied, append_refusal, is_spool_full, Job, first_system}
use Rattle.qm_kinds.specs.declared.refusal.Refusal.TheVariants as refused
use Rattle.qm_kinds.specs.declared.refusal.Holder.TheVariants as holder
use Rattle.qm_kinds.specs.declared.request.Request.TheVariants.{Append}
use Rattle.qm_kinds.specs.declared.script.ScriptKind.TheVariants.{Form}
use Rattle.qm_model.specs.Submitting.{submit_refusal, entry_of}
use Rattle.qm_model.specs.Script.{script_of}
use Rattle.qm_model.proofs.Site.{a_batch_job}

abbrev pub night_file : FileName
night_file = record { name = codes "NIGHT"; extension = Some (codes "COM") }

-- a site with a file of nine bytes
abbrev pub site : System
site = record (first_system (codes "A")) { files = record { name = night_file; bytes = codes "$ EXIT 1" ++ 10 ∷ [] } ∷ [] }

-- a batch job for it
abbrev pub night_job : Job
night_job = record (a_batch_job (codes "SYS$BATCH") (codes "NIGHT")) { user = codes "SMITH" }

pub taken : submit_refusal site night_job ≡ None
taken = refl

pub no_such_queue : submit_refusal site (record night_job { queue = codes "LP" }) ≡ Some (refused.NoSuchQueue (codes "LP"))
no_such_queue = refl

pub wrong_kind : submit_refusal site (record night_job { kind = Print }) ≡ Some refused.WrongKind
wrong_kind = refl

pub no_such_file : submit_refusal (first_system (codes "A")) night_job ≡ Some refused.NoSuchFile
no_such_file = refl

pub bad_value : submit_refusal site (record night_job { copies = 2 }) ≡ Some refused.BadValue
bad_value = refl

pub no_copy : submit_refusal site (record night_job { copies = 0 }) ≡ Some refused.BadValue
no_copy = refl

pub no_such_characteristic : submit_refusal site (record night_job { characteristics = Number 7 ∷ [] }) ≡ Some (refused.NoSuchCharacteristic (Number 7))
no_such_characteristic = refl

pub entries_full : submit_refusal (record site { entries = replicate 65536 (entry_of site 0 night_job) }) night_job ≡ Some refused.EntriesFull
entries_full = refl

pub numbers_spent : submit_refusal (record site { next_entry = 4294967295 }) night_job ≡ Some refused.NumbersSpent
numbers_spent = refl

pub runs_spent : applied (record site { next_run = 4611686018427387904 }) 0 0 (Append night_file []) ≡ Err refused.NumbersSpent
runs_spent = refl

pub referenced : append_refusal (record site { entries = entry_of site 0 night_job ∷ [] }) night_file [] ≡ Some (refused.Referenced (holder.Entry 1))
referenced = refl

pub file_too_long : is_spool_full night_file 1048568 site.files ≡ true
file_too_long = refl

pub file_long_enough : is_spool_full night_file 1048567 site.files ≡ false
file_long_enough = refl

pub a_file_too_many : append_refusal (record site { files = replicate 4096 (record { name = night_file; bytes = [] }) }) (record { name = codes "X"; extension = None }) [] ≡ Some refused.SpoolFull
a_file_too_many = refl

pub no_line_feed : script_of (codes "A $ SUBMIT JOB") ≡ Err Form
no_line_feed = refl

pub long_node : script_of (codes "SATURNX $ SUBMIT JOB" ++ 10 ∷ []) ≡ Err Form
long_node = refl
