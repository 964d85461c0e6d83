-- Entries are changed and deleted.
-- DCL Dictionary, SET ENTRY and DELETE/ENTRY.
use Rattle.std.specs.Prelude.{ℕ, Bool, false, not, ◌&&◌, ◌||◌, if◌then◌else◌, is_some, is_none, List, [], ◌∷◌, unwrap_or, Option, None, Some}
use Rattle.std.specs.Option.{option_map_or, option_and_then, option_or}
use Rattle.qm_kinds.specs.declared.entry.Entry.{Entry}
use Rattle.qm_kinds.specs.declared.entry.EntryState.TheVariants.{Pending}
use Rattle.qm_kinds.specs.declared.entry.Fate.TheVariants.{Remove}
use Rattle.qm_kinds.specs.declared.refusal.Refusal.{Refusal}
use Rattle.qm_kinds.specs.declared.refusal.Refusal.TheVariants.{NoSuchEntry, EntryBusy, NotHeld, NoSuchQueue, WrongKind}
use Rattle.qm_kinds.specs.declared.reply.Act.TheVariants.{EntryIs, EntryDeleted}
use Rattle.qm_kinds.specs.declared.request.EntryChange.{EntryChange}
use Rattle.qm_kinds.specs.declared.system.System.{System}
use Rattle.qm_model.specs.Find.{queue_named, entry_numbered}
use Rattle.qm_model.specs.Outcome.{Accepted, refused_where, first_refusal}
use Rattle.qm_model.specs.Kinds.{is_print, is_other_kind}
use Rattle.qm_model.specs.Wanted.{refused_form, refused_characteristics, form_named, characteristics_of}
use Rattle.qm_model.specs.Submitting.{state_of}
use Rattle.qm_model.specs.Standing.{is_executing, with_entry}
use Rattle.qm_model.specs.JobStates.{is_pending, is_waiting}
use Rattle.qm_model.specs.Stopping.{entry_aborting}
use Rattle.qm_model.specs.Replying.{replied}

-- there is no queue of the name
abbrev pub refused_queue : System → List ℕ → Option Refusal
refused_queue s name = refused_where (is_none (queue_named name s.queues)) (NoSuchQueue name)

-- the queue is for the other kind of job, or a batch job is given a form
abbrev pub is_entry_of_other_kind : System → Entry → EntryChange → Bool
is_entry_of_other_kind s e change =
    option_map_or (is_other_kind e.kind) (option_and_then (λ name. queue_named name s.queues) change.queue) false
    || (not (is_print e.kind) && is_some change.form)

-- why this entry can't be changed so
abbrev pub entry_change_refusal : System → EntryChange → Entry → Option Refusal
entry_change_refusal s change e = first_refusal
    (refused_where (not (is_waiting e.state)) (EntryBusy e.state)
    ∷ refused_where (change.release && is_pending e.state) NotHeld
    ∷ option_and_then (refused_queue s) change.queue
    ∷ refused_where (is_entry_of_other_kind s e change) WrongKind
    ∷ option_and_then (refused_form s) change.form
    ∷ option_and_then (refused_characteristics s.characteristics) change.characteristics
    ∷ [])

-- why the entry of a number can't be changed so
abbrev pub set_entry_refusal : System → ℕ → EntryChange → Option Refusal
set_entry_refusal s number change = first_refusal
    (refused_where (is_none (entry_numbered number s.entries)) (NoSuchEntry number)
    ∷ option_and_then (entry_change_refusal s change) (entry_numbered number s.entries)
    ∷ [])

-- what is given is set, and the rest stays; a release takes the hold and the moment away
abbrev pub with_fields : System → EntryChange → Entry → Entry
with_fields s change e = record e {
  home = unwrap_or change.queue e.home;
  name = unwrap_or change.name e.name;
  priority = unwrap_or change.priority e.priority;
  after = if change.release then None else unwrap_or change.after e.after;
  held = not change.release && (e.held || change.hold);
  retain = unwrap_or change.retain e.retain;
  restart = unwrap_or change.restart e.restart;
  characteristics = option_map_or (characteristics_of s) change.characteristics e.characteristics;
  form = option_or (option_and_then (form_named s.forms) change.form) e.form;
}

-- and then its state anew
abbrev pub in_new_state : ℕ → Entry → Entry
in_new_state now e = record e { state = state_of e.held e.after now }

-- the entry as it is after the change
abbrev pub changed_entry : System → ℕ → EntryChange → Entry → Entry
changed_entry s now change e = in_new_state now (with_fields s change e)

-- the entry as it is now, in its place
abbrev pub entry_set_to : System → ℕ → Entry → Accepted
entry_set_to s number new = replied (record s { entries = with_entry number (λ e. Some new) s.entries }) (EntryIs number new.state)

-- the entry of the number is changed, unless it has just gone
abbrev pub entry_set : System → ℕ → ℕ → EntryChange → Accepted
entry_set s now number change =
    option_map_or (λ e. entry_set_to s number (changed_entry s now change e)) (entry_numbered number s.entries) (replied s (EntryIs number Pending))

-- an entry is deleted that is there
abbrev pub delete_entry_refusal : System → ℕ → Option Refusal
delete_entry_refusal s number = refused_where (is_none (entry_numbered number s.entries)) (NoSuchEntry number)

-- an entry with a run goes at the next report of the run, or when its node is lost, and another one at once
abbrev pub entry_deleted : System → ℕ → Accepted
entry_deleted s number =
    if option_map_or is_executing (entry_numbered number s.entries) false
    then entry_aborting s Remove number
    else replied (record s { entries = with_entry number (λ e. None) s.entries }) (EntryDeleted number)
