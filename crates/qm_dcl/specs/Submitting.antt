-- SUBMIT file and PRINT file.
-- DCL Dictionary, SUBMIT and PRINT.
use Rattle.std.specs.Prelude.{ℕ, Bool, true, false, List, [], codes, Option, None, Some, unwrap_or}
use Rattle.qm_kinds.specs.Names.{batch_queue, print_queue, command_type}
use Rattle.qm_model.specs.Common.{JobKind, Default, FileName, Job}
use Rattle.qm_kinds.specs.declared.entry.JobKind.TheVariants.{Batch, Print}
use Rattle.qm_dcl.specs.declared.lists.Lists.{Lists}
use Rattle.qm_dcl.specs.declared.settings.Settings.{Settings}

-- the queue of jobs that name none
abbrev pub default_queue : JobKind → List ℕ
default_queue Batch = batch_queue
default_queue Print = print_queue

-- the type of files that name none
abbrev pub default_type : JobKind → List ℕ
default_type Batch = command_type
default_type Print = codes "LIS"

-- a print job may start again, a batch job may not
abbrev pub default_restart : JobKind → Bool
default_restart Batch = false
default_restart Print = true

-- the file, with this type where it names none
abbrev pub with_type : FileName → List ℕ → Option (List ℕ) → FileName
with_type file type None = record file { extension = Some type }
with_type file type (Some extension) = file

-- A job of a user for a file: where nothing else is given, in the queue of its kind, under the file's name, and kept as the queue
-- says. Only PRINT has qualifiers that give a form, copies and a flag page.
abbrev pub job_of : List ℕ → JobKind → FileName → Settings → Lists → Job
job_of user kind file s lists = record {
  user = user;
  kind = kind;
  queue = unwrap_or s.queue (default_queue kind);
  file = with_type file (default_type kind) file.extension;
  name = unwrap_or s.job.name file.name;
  priority = unwrap_or s.job.priority 100;
  after = unwrap_or s.job.after None;
  hold = s.job.hold;
  retain = unwrap_or s.job.retain Default;
  restart = unwrap_or s.job.restart (default_restart kind);
  characteristics = unwrap_or lists.characteristics [];
  form = s.job.form;
  copies = s.job.copies;
  flag = s.job.flag;
}
