-- SET ENTRY number.
-- DCL Dictionary, SET ENTRY.
use Rattle.std.specs.Prelude.{ℕ, List, Option}
use Rattle.qm_model.specs.Common.{EntryChange, NameOrNumber}
use Rattle.qm_dcl.specs.declared.settings.JobSettings.{JobSettings}

-- what is changed of an entry, which may be moved to a queue
abbrev pub entry_change_of : JobSettings → Option (List ℕ) → Option (List NameOrNumber) → EntryChange
entry_change_of job queue characteristics = record {
  release = job.release;
  hold = job.hold;
  after = job.after;
  priority = job.priority;
  name = job.name;
  characteristics = characteristics;
  form = job.form;
  queue = queue;
  restart = job.restart;
  retain = job.retain;
}
