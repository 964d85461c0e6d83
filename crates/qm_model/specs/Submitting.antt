-- A job is put into a queue.
-- DCL Dictionary, SUBMIT and PRINT; OpenVMS System Services Reference Manual, $SNDJBC, on entering a job.
-- This site's own: refusals come in this order.
use Rattle.std.specs.Prelude.{ℕ, ◌+◌, ◌==◌, nat_lt, nat_le, Bool, true, false, not, ◌&&◌, ◌||◌, if◌then◌else◌, List, [], ◌∷◌, ◌++◌, length, Option, None, Some, is_some, is_none}
use Rattle.std.specs.Option.{option_map, option_map_or, option_and_then}
use Rattle.qm_kinds.specs.Sizes.{blocks_of}
use Rattle.qm_kinds.specs.declared.entry.Entry.{Entry}
use Rattle.qm_kinds.specs.declared.entry.EntryState.{EntryState}
use Rattle.qm_kinds.specs.declared.entry.EntryState.TheVariants.{Pending, Holding, Timed}
use Rattle.qm_kinds.specs.declared.entry.JobKind.{JobKind}
use Rattle.qm_kinds.specs.declared.entry.JobKind.TheVariants.{Batch, Print}
use Rattle.qm_kinds.specs.declared.limits.TheConstants.{ENTRIES_LIMIT}
use Rattle.qm_kinds.specs.declared.refusal.Refusal.{Refusal}
use Rattle.qm_kinds.specs.declared.refusal.Refusal.TheVariants.{NoSuchQueue, WrongKind, NoSuchFile, BadValue, EntriesFull, NumbersSpent}
use Rattle.qm_kinds.specs.declared.reply.Act.TheVariants.{Submitted}
use Rattle.qm_kinds.specs.declared.request.NameOrNumber.{NameOrNumber}
use Rattle.qm_kinds.specs.declared.request.Job.{Job}
use Rattle.qm_kinds.specs.declared.system.System.{System}
use Rattle.qm_kinds.specs.Names.{default_form}
use Rattle.qm_model.specs.Find.{file_named, queue_named, form_wanted}
use Rattle.qm_model.specs.Outcome.{Accepted, refused_where, first_refusal}
use Rattle.qm_model.specs.Appending.{bytes_of}
use Rattle.qm_model.specs.Kinds.{is_other_kind, is_print}
use Rattle.qm_model.specs.Wanted.{refused_characteristics, refused_form, set_of}

-- there is no copy, or a batch job asks for what only print jobs have
abbrev pub has_bad_value : Job → Bool
has_bad_value j = j.copies == 0 || (not (is_print j.kind) && (is_some j.form || j.flag || not (j.copies == 1)))

-- why a job can't be put into its queue
abbrev pub submit_refusal : System → Job → Option Refusal
submit_refusal s j = first_refusal
    (refused_where (is_none (queue_named j.queue s.queues)) (NoSuchQueue j.queue)
    ∷ refused_where (option_map_or (is_other_kind j.kind) (queue_named j.queue s.queues) false) WrongKind
    ∷ refused_where (is_none (file_named j.file s.files)) NoSuchFile
    ∷ refused_where (has_bad_value j) BadValue
    ∷ option_and_then (refused_form s) j.form
    ∷ refused_characteristics s.characteristics j.characteristics
    ∷ refused_where (nat_le ENTRIES_LIMIT (length s.entries)) EntriesFull
    ∷ refused_where (s.next_entry == 4294967295) NumbersSpent
    ∷ [])

-- a job waits while it is held, and until its moment
abbrev pub state_of : Bool → Option ℕ → ℕ → EntryState
state_of true after now = Holding
state_of false None now = Pending
state_of false (Some at) now = if nat_lt now at then Timed at else Pending

-- a print job that asks for no form has the form DEFAULT
abbrev pub form_of : System → JobKind → Option NameOrNumber → Option (List ℕ)
form_of s Batch wanted = None
form_of s Print None = Some default_form
form_of s Print (Some wanted) = option_map (λ f. f.name) (form_wanted wanted s.forms)

-- the entry of a job: as it is asked for, under the next number
abbrev pub entry_of : System → ℕ → Job → Entry
entry_of s now j = record {
  number = s.next_entry;
  kind = j.kind;
  home = j.queue;
  name = j.name;
  user = j.user;
  file = j.file;
  size = blocks_of (length (bytes_of j.file s.files));
  priority = j.priority;
  after = j.after;
  held = j.hold;
  retain = j.retain;
  restart = j.restart;
  characteristics = record { 0 = set_of s.characteristics j.characteristics };
  form = form_of s j.kind j.form;
  copies = j.copies;
  flag = j.flag;
  mark = [];
  again = false;
  state = state_of j.hold j.after now;
}

-- one more entry, and the next number rises
abbrev pub submitted : System → ℕ → Job → Accepted
submitted s now j =
    let entry = entry_of s now j in
    record {
      system = record s { entries = s.entries ++ entry ∷ []; next_entry = s.next_entry + 1 };
      reply = record { act = Submitted j.name j.queue s.next_entry entry.state; started = [] };
    }
