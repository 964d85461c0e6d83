-- What of a job and of an entry a command can say.
-- DCL Dictionary, SUBMIT, PRINT and SET ENTRY.
use Rattle.std.specs.Prelude.{ℕ, Bool, true, false, ◌&&◌, ◌||◌, ◌==◌, not, nat_lt, List, length, Option, None, Some, is_some}
use Rattle.std.specs.Option.{option_map_or}
use Rattle.qm_model.specs.Common.{JobKind, EntryChange, Job, NameOrNumber, is_short}
use Rattle.qm_kinds.specs.declared.entry.JobKind.TheVariants.{Batch, Print}
use Rattle.qm_sayable.specs.Values.{is_form_reference, are_characteristics}

-- only a print job has a form, copies or a flag page
abbrev pub are_print_settings : JobKind → Job → Bool
are_print_settings Batch job = not (is_some job.form) && job.copies == 1 && not job.flag
are_print_settings Print job = option_map_or is_form_reference job.form true

-- a job that can be submitted by a command: its file has a type, since one is added where none is given
abbrev pub is_job : Job → Bool
is_job job =
    is_short job.queue && is_some job.file.extension && are_characteristics job.characteristics && are_print_settings job.kind job

-- a moment is set
abbrev pub is_timed : Option (Option ℕ) → Bool
is_timed None = false
is_timed (Some None) = false
is_timed (Some (Some moment)) = true

-- characteristics that an entry can get; SET ENTRY has no word for none
abbrev pub are_entry_characteristics : List NameOrNumber → Bool
are_entry_characteristics characteristics = nat_lt 0 (length characteristics) && are_characteristics characteristics

-- something is changed
abbrev pub sets_entry : EntryChange → Bool
sets_entry change =
    change.release || change.hold || is_some change.after || is_some change.priority || is_some change.name || is_some change.characteristics
    || is_some change.form || is_some change.queue || is_some change.restart || is_some change.retain

-- a change that a command can make: what is released is neither held nor waits for a moment
abbrev pub is_entry_change : EntryChange → Bool
is_entry_change change =
    sets_entry change && not (change.release && (change.hold || is_timed change.after))
    && option_map_or are_entry_characteristics change.characteristics true
    && option_map_or is_form_reference change.form true && option_map_or is_short change.queue true
