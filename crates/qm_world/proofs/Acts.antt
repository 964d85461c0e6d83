-- The derived test of what requests did tells whether they did the same.
use Rattle.std.proofs.Common.{◌≡◌, ◌&&◌, true, rules, refl, ◌==◌, bytes_eq}
use Rattle.std.proofs.lemmas.Bool.{and_parts, false≢true}
use Rattle.std.proofs.lemmas.Slice.Eq.{bytes_eq-Decides}
use Rattle.qm_kinds.specs.declared.reply.Act.{Act}
use Rattle.qm_kinds.specs.declared.reply.Act.TheVariants.{Filed, Dropped, FormDefined, FormDeleted, CharacteristicDefined, CharacteristicDeleted, QueueIs, QueueDeleted, EntryAborting, Moved, Submitted, EntryIs, EntryDeleted, Marked, RunCompleted, RunRetained, RunRequeued, RunRemoved, Ticked, NodeStarted, NodeStopped, Managing, Compacted}
use Rattle.qm_kinds.specs.contracts.entry.EntryStatePartialEq.TheImpl.{eq-value as state-eq}
use Rattle.qm_kinds.specs.contracts.reply.ActPartialEq.TheImpl.{eq-value}

filed_same : (a : _) (b : _) → (other : Act) → eq-value.it (Filed a b) other ≡ true → (Filed a b) ≡ other
filed_same a b (Filed w x) h = search rules
filed_same a b _ h = absurd (false≢true h)

dropped_same : (a : _) → (other : Act) → eq-value.it (Dropped a) other ≡ true → (Dropped a) ≡ other
dropped_same a (Dropped w) h = search rules
dropped_same a _ h = absurd (false≢true h)

form_defined_same : (a : _) → (other : Act) → eq-value.it (FormDefined a) other ≡ true → (FormDefined a) ≡ other
form_defined_same a (FormDefined w) h = search rules
form_defined_same a _ h = absurd (false≢true h)

form_deleted_same : (a : _) → (other : Act) → eq-value.it (FormDeleted a) other ≡ true → (FormDeleted a) ≡ other
form_deleted_same a (FormDeleted w) h = search rules
form_deleted_same a _ h = absurd (false≢true h)

characteristic_defined_same : (a : _) → (other : Act) → eq-value.it (CharacteristicDefined a) other ≡ true → (CharacteristicDefined a) ≡ other
characteristic_defined_same a (CharacteristicDefined w) h = search rules
characteristic_defined_same a _ h = absurd (false≢true h)

characteristic_deleted_same : (a : _) → (other : Act) → eq-value.it (CharacteristicDeleted a) other ≡ true → (CharacteristicDeleted a) ≡ other
characteristic_deleted_same a (CharacteristicDeleted w) h = search rules
characteristic_deleted_same a _ h = absurd (false≢true h)

queue_is_same : (a : _) (b : _) → (other : Act) → eq-value.it (QueueIs a b) other ≡ true → (QueueIs a b) ≡ other
queue_is_same a b (QueueIs w x) h = search rules
queue_is_same a b _ h = absurd (false≢true h)

queue_deleted_same : (a : _) → (other : Act) → eq-value.it (QueueDeleted a) other ≡ true → (QueueDeleted a) ≡ other
queue_deleted_same a (QueueDeleted w) h = search rules
queue_deleted_same a _ h = absurd (false≢true h)

entry_aborting_same : (a : _) → (other : Act) → eq-value.it (EntryAborting a) other ≡ true → (EntryAborting a) ≡ other
entry_aborting_same a (EntryAborting w) h = search rules
entry_aborting_same a _ h = absurd (false≢true h)

moved_same : (a : _) → (other : Act) → eq-value.it (Moved a) other ≡ true → (Moved a) ≡ other
moved_same a (Moved w) h = search rules
moved_same a _ h = absurd (false≢true h)

entry_is_same : (a : _) (b : _) → (other : Act) → eq-value.it (EntryIs a b) other ≡ true → (EntryIs a b) ≡ other
entry_is_same a b (EntryIs w x) h = search rules
entry_is_same a b _ h = absurd (false≢true h)

submitted_same : (a : _) (b : _) (c : _) (d : _) → (other : Act) → eq-value.it (Submitted a b c d) other ≡ true → (Submitted a b c d) ≡ other
submitted_same a b c d (Submitted w x y z) h =
    let first = and_parts (bytes_eq a w) (bytes_eq b x && ((c == y) && state-eq.it d z)) h in
    let second = and_parts (bytes_eq b x) ((c == y) && state-eq.it d z) first.1 in
    let last : EntryIs c d ≡ EntryIs y z = entry_is_same c d (EntryIs y z) second.1 in
    let name : a ≡ w = (bytes_eq-Decides a w).0 first.0 in
    let home : b ≡ x = (bytes_eq-Decides b x).0 second.0 in
    cc
submitted_same a b c d _ h = absurd (false≢true h)

entry_deleted_same : (a : _) → (other : Act) → eq-value.it (EntryDeleted a) other ≡ true → (EntryDeleted a) ≡ other
entry_deleted_same a (EntryDeleted w) h = search rules
entry_deleted_same a _ h = absurd (false≢true h)

marked_same : (a : _) (b : _) → (other : Act) → eq-value.it (Marked a b) other ≡ true → (Marked a b) ≡ other
marked_same a b (Marked w x) h = search rules
marked_same a b _ h = absurd (false≢true h)

run_completed_same : (a : _) (b : _) → (other : Act) → eq-value.it (RunCompleted a b) other ≡ true → (RunCompleted a b) ≡ other
run_completed_same a b (RunCompleted w x) h = search rules
run_completed_same a b _ h = absurd (false≢true h)

run_retained_same : (a : _) (b : _) → (other : Act) → eq-value.it (RunRetained a b) other ≡ true → (RunRetained a b) ≡ other
run_retained_same a b (RunRetained w x) h = search rules
run_retained_same a b _ h = absurd (false≢true h)

run_requeued_same : (a : _) → (other : Act) → eq-value.it (RunRequeued a) other ≡ true → (RunRequeued a) ≡ other
run_requeued_same a (RunRequeued w) h = search rules
run_requeued_same a _ h = absurd (false≢true h)

run_removed_same : (a : _) → (other : Act) → eq-value.it (RunRemoved a) other ≡ true → (RunRemoved a) ≡ other
run_removed_same a (RunRemoved w) h = search rules
run_removed_same a _ h = absurd (false≢true h)

ticked_same : (other : Act) → eq-value.it Ticked other ≡ true → Ticked ≡ other
ticked_same Ticked h = refl
ticked_same _ h = absurd (false≢true h)

node_started_same : (a : _) → (other : Act) → eq-value.it (NodeStarted a) other ≡ true → (NodeStarted a) ≡ other
node_started_same a (NodeStarted w) h = search rules
node_started_same a _ h = absurd (false≢true h)

node_stopped_same : (a : _) → (other : Act) → eq-value.it (NodeStopped a) other ≡ true → (NodeStopped a) ≡ other
node_stopped_same a (NodeStopped w) h = search rules
node_stopped_same a _ h = absurd (false≢true h)

managing_same : (a : _) (b : _) → (other : Act) → eq-value.it (Managing a b) other ≡ true → (Managing a b) ≡ other
managing_same a b (Managing w x) h = search rules
managing_same a b _ h = absurd (false≢true h)

compacted_same : (a : _) → (other : Act) → eq-value.it (Compacted a) other ≡ true → (Compacted a) ≡ other
compacted_same a (Compacted w) h = search rules
compacted_same a _ h = absurd (false≢true h)

pub act_same : (one other : Act) → eq-value.it one other ≡ true → one ≡ other
act_same (Filed a b) other h = filed_same a b other h
act_same (Dropped a) other h = dropped_same a other h
act_same (FormDefined a) other h = form_defined_same a other h
act_same (FormDeleted a) other h = form_deleted_same a other h
act_same (CharacteristicDefined a) other h = characteristic_defined_same a other h
act_same (CharacteristicDeleted a) other h = characteristic_deleted_same a other h
act_same (QueueIs a b) other h = queue_is_same a b other h
act_same (QueueDeleted a) other h = queue_deleted_same a other h
act_same (EntryAborting a) other h = entry_aborting_same a other h
act_same (Moved a) other h = moved_same a other h
act_same (Submitted a b c d) other h = submitted_same a b c d other h
act_same (EntryIs a b) other h = entry_is_same a b other h
act_same (EntryDeleted a) other h = entry_deleted_same a other h
act_same (Marked a b) other h = marked_same a b other h
act_same (RunCompleted a b) other h = run_completed_same a b other h
act_same (RunRetained a b) other h = run_retained_same a b other h
act_same (RunRequeued a) other h = run_requeued_same a other h
act_same (RunRemoved a) other h = run_removed_same a other h
act_same Ticked other h = ticked_same other h
act_same (NodeStarted a) other h = node_started_same a other h
act_same (NodeStopped a) other h = node_stopped_same a other h
act_same (Managing a b) other h = managing_same a b other h
act_same (Compacted a) other h = compacted_same a other h
