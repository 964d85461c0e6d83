-- The items of a row.
-- OpenVMS System Services Reference Manual, $GETQUI, on output items. This site's own: which items a row has.
use Rattle.std.specs.Prelude.{ℕ, List, [], ◌∷◌}
use Rattle.std.specs.Int.{w16, w32, w64, to_le_bytes}
use Rattle.qm_values.specs.declared.items.item.Item.{Item}
use Rattle.qm_model.specs.Common.{EntryState, Pending, Holding, Timed, Running, Aborting, Retained, Row, QueueKind, QueueState, stands_in}
use Rattle.qm_kinds.specs.declared.query.Row.TheVariants as row
use Rattle.qm_kinds.specs.declared.queue.QueueKind.TheVariants as kind
use Rattle.qm_kinds.specs.declared.queue.QueueState.TheVariants as state
use Rattle.qm_values.specs.declared.codes.TheConstants.{QUEUE, JOB_NAME, PRIORITY, KIND, NODE, ENTRY, NAME, NUMBER, STOCK, STATE, EPOCH}

abbrev pub item : ℕ → List ℕ → Item
item code value = record { code = code; value = value }

-- the number of a kind of queue
abbrev pub queue_kind_code : QueueKind → ℕ
queue_kind_code kind.Batch = 1
queue_kind_code kind.Print = 2
queue_kind_code kind.GenericBatch = 3
queue_kind_code kind.GenericPrint = 4

-- the number of a queue's state
abbrev pub queue_state_code : QueueState → ℕ
queue_state_code state.Stopped = 1
queue_state_code state.Started = 2
queue_state_code state.Paused = 3
queue_state_code state.Stopping = 4

-- the number of an entry's state
abbrev pub entry_state_code : EntryState → ℕ
entry_state_code Pending = 1
entry_state_code Holding = 2
entry_state_code (Timed at) = 3
entry_state_code (Running queue node run) = 4
entry_state_code (Aborting queue node run fate) = 5
entry_state_code (Retained status until) = 6

-- the items of a row; an entry has the queue where it stands, and not its home
abbrev pub items_of : Row → List Item
items_of (row.Queue q) = item QUEUE q.name ∷ item KIND (queue_kind_code q.kind ∷ []) ∷ item STATE (queue_state_code q.state ∷ []) ∷ []
items_of (row.Entry e) =
    item ENTRY (to_le_bytes w32 e.number) ∷ item QUEUE (stands_in e) ∷ item JOB_NAME e.name ∷ item PRIORITY (e.priority ∷ [])
    ∷ item STATE (entry_state_code e.state ∷ []) ∷ []
items_of (row.Form f) = item NAME f.name ∷ item NUMBER (to_le_bytes w16 f.number) ∷ item STOCK f.stock ∷ []
items_of (row.Characteristic c) = item NAME c.name ∷ item NUMBER (to_le_bytes w16 c.number) ∷ []
items_of (row.Manager node epoch may) = item NODE node ∷ item EPOCH (to_le_bytes w64 epoch) ∷ []
