-- Why requests are refused, in systems that have the rows of tables.
use Rattle.std.specs.Prelude.{◌≡◌, ℕ, Bool, false, not, List, find, Option, bytes_eq}
use Rattle.std.specs.List.{list_any}
use Rattle.std.specs.Option.{option_and_then, option_map, option_map_or}
use Rattle.qm_model.specs.Common.{Entry, JobKind, Queue, QueueKind, QueueChange, Refusal, EntryChange, NameOrNumber, System, queue_named, is_other_kind, is_same_queue_kind, refused_by_queue, change_refusal, refused_characteristics}
use Rattle.qm_model.specs.Entries.{entry_change_refusal}
use Rattle.qm_model.specs.Queues.{runs_for, delete_queue_refusal}
use Rattle.qm_tables.specs.Forms.{Defined}
use Rattle.qm_tables.specs.Queues.{Kept}
use Rattle.qm_rules.specs.Settings.{HasForms, HasQueues}

-- the queue of the name that is given takes jobs of the other kind
abbrev pub is_home_of_other_kind : JobKind → Option (List ℕ) → System → Bool
is_home_of_other_kind kind home s = option_map_or (is_other_kind kind) (option_and_then (λ name. queue_named name s.queues) home) false

-- there is a queue, and it is of another kind
abbrev pub is_of_other_kind : QueueKind → Option Queue → Bool
is_of_other_kind kind queue = option_map_or (λ q. not (is_same_queue_kind q.kind kind)) queue false

-- the first characteristic that is asked for, if any are, and isn't there
abbrev pub refused_among : Option (List NameOrNumber) → System → Option Refusal
refused_among wanted s = option_and_then (refused_characteristics s.characteristics) wanted

-- why the queue, if there is one, can't be given the settings
abbrev pub refused_change_of : QueueChange → Option Queue → System → Option Refusal
refused_change_of change queue s = option_and_then (λ q. change_refusal s q.kind change) queue

-- this is why the entry can't be changed so
abbrev pub IsWhyEntryStays : Defined → Kept → EntryChange → Entry → Option Refusal → Type 0
IsWhyEntryStays forms queues change entry refusal = (s : System) → HasForms s forms → HasQueues s queues → refusal ≡ entry_change_refusal s change entry

-- this is why the queue can't be deleted, where the one queue refuses it that passes jobs on to it, and this is the least entry
-- that runs for it
abbrev pub IsWhyQueueStays : Kept → List ℕ → Option Refusal → Option ℕ → Option Refusal → Type 0
IsWhyQueueStays queues name by_queue runs refusal = (s : System) → s.queues ≡ queues.queues
    → refused_by_queue (λ q. list_any (bytes_eq name) q.targets) s.queues ≡ by_queue
    → option_map (λ e. e.number) (find (runs_for name) s.entries) ≡ runs
    → refusal ≡ delete_queue_refusal s name
