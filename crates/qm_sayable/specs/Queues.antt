-- What of a queue a command can say.
-- DCL Dictionary, INITIALIZE/QUEUE, SET QUEUE and START/QUEUE.
use Rattle.std.specs.Prelude.{Bool, true, false, ◌&&◌, ◌||◌, ◌==◌, not, nat_lt, if◌then◌else◌, length, is_some}
use Rattle.std.specs.List.{list_all}
use Rattle.std.specs.Option.{option_map_or}
use Rattle.qm_model.specs.Common.{NewQueue, QueueChange, QueueKind, is_short}
use Rattle.qm_kinds.specs.declared.queue.QueueKind.TheVariants.{Batch, Print, GenericBatch, GenericPrint}
use Rattle.qm_dcl.specs.Values.{is_node_name}
use Rattle.qm_sayable.specs.Values.{fits_list, is_form_reference, are_characteristics}

-- what is set can be said
abbrev pub are_queue_settings : QueueChange → Bool
are_queue_settings change =
    option_map_or are_characteristics change.characteristics true && option_map_or is_form_reference change.form true

-- something is set
abbrev pub sets_queue : QueueChange → Bool
sets_queue change =
    is_some change.limit || is_some change.characteristics || is_some change.form || is_some change.blocks
    || is_some change.by_size || is_some change.retain

-- an execution queue passes its jobs on to none, and has a device only of a node that is named
abbrev pub is_placed : NewQueue → Bool
is_placed new =
    length new.targets == 0 && option_map_or is_node_name new.node true && option_map_or is_short new.device true
    && (is_some new.node || not (is_some new.device))

-- a generic queue passes its jobs on to some queues, and stands on no node
abbrev pub is_passing_on : NewQueue → Bool
is_passing_on new =
    nat_lt 0 (length new.targets) && fits_list (length new.targets) && list_all is_short new.targets
    && not (is_some new.node) && not (is_some new.device)

abbrev pub is_generic : QueueKind → Bool
is_generic Batch = false
is_generic Print = false
is_generic GenericBatch = true
is_generic GenericPrint = true

-- a queue that can be made by a command
abbrev pub is_new_queue : NewQueue → Bool
is_new_queue new =
    is_short new.name && (if is_generic new.kind then is_passing_on new else is_placed new) && are_queue_settings new.change
