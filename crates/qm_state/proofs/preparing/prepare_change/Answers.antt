use Rattle.std.proofs.Common.{◌∙◌, ap, sym}
use Rattle.qm_kinds.specs.declared.request.Request.TheVariants.{Append, NodeLost, Took}
use Rattle.qm_image.proofs.Handing.{handed}
use Rattle.qm_state.proofs.preparing.prepare_change.Goals as goal

pub returns-in-Append : goal.returns-in-Append
returns-in-Append c = handed (ap (Append c.in-Append.file) c.as_slice.ensures ∙ sym c.in-Append.is) (c.prepare_append.ensures c.args.now c.args.node.now)

pub returns-in-Fill : goal.returns-in-Fill
returns-in-Fill c = handed (sym c.in-Fill.is) (c.prepare_fill.ensures c.args.now c.args.node.now)

pub returns-in-Drop : goal.returns-in-Drop
returns-in-Drop c = handed (sym c.in-Drop.is) (c.prepare_drop.ensures c.args.now c.args.node.now)

pub returns-in-DefineForm : goal.returns-in-DefineForm
returns-in-DefineForm c = handed (sym c.in-DefineForm.is) (c.prepare_define_form.ensures c.args.now c.args.node.now)

pub returns-in-DeleteForm : goal.returns-in-DeleteForm
returns-in-DeleteForm c = handed (sym c.in-DeleteForm.is) (c.prepare_delete_form.ensures c.args.now c.args.node.now)

pub returns-in-DefineCharacteristic : goal.returns-in-DefineCharacteristic
returns-in-DefineCharacteristic c = handed (sym c.in-DefineCharacteristic.is) (c.prepare_define_characteristic.ensures c.args.now c.args.node.now)

pub returns-in-DeleteCharacteristic : goal.returns-in-DeleteCharacteristic
returns-in-DeleteCharacteristic c = handed (sym c.in-DeleteCharacteristic.is) (c.prepare_delete_characteristic.ensures c.args.now c.args.node.now)

pub returns-in-InitializeQueue : goal.returns-in-InitializeQueue
returns-in-InitializeQueue c = handed (sym c.in-InitializeQueue.is) (c.prepare_initialize.ensures c.args.now)

pub returns-in-SetQueue : goal.returns-in-SetQueue
returns-in-SetQueue c = handed (sym c.in-SetQueue.is) (c.prepare_set.ensures c.args.now c.args.node.now)

pub returns-in-StartQueue : goal.returns-in-StartQueue
returns-in-StartQueue c = handed (sym c.in-StartQueue.is) (c.prepare_start.ensures c.args.now c.args.node.now)

pub returns-in-StopQueue : goal.returns-in-StopQueue
returns-in-StopQueue c = handed (sym c.in-StopQueue.is) (c.prepare_stop.ensures c.args.now c.args.node.now)

pub returns-in-AbortJob : goal.returns-in-AbortJob
returns-in-AbortJob c = handed (sym c.in-AbortJob.is) (c.prepare_abort.ensures c.args.now c.args.node.now)

pub returns-in-DeleteQueue : goal.returns-in-DeleteQueue
returns-in-DeleteQueue c = handed (sym c.in-DeleteQueue.is) (c.prepare_delete_queue.ensures c.args.now c.args.node.now)

pub returns-in-Merge : goal.returns-in-Merge
returns-in-Merge c = handed (sym c.in-Merge.is) (c.prepare_merge.ensures c.args.now c.args.node.now)

pub returns-in-Submit : goal.returns-in-Submit
returns-in-Submit c = handed (sym c.in-Submit.is) (c.prepare_submit.ensures c.args.node.now)

pub returns-in-SetEntry : goal.returns-in-SetEntry
returns-in-SetEntry c = handed (sym c.in-SetEntry.is) (c.prepare_set_entry.ensures c.args.node.now)

pub returns-in-DeleteEntry : goal.returns-in-DeleteEntry
returns-in-DeleteEntry c = handed (sym c.in-DeleteEntry.is) (c.prepare_delete_entry.ensures c.args.now c.args.node.now)

pub returns-in-Mark : goal.returns-in-Mark
returns-in-Mark c = handed (sym c.in-Mark.is) (c.prepare_report.ensures c.args.now)

pub returns-in-Done : goal.returns-in-Done
returns-in-Done c = handed (sym c.in-Done.is) (c.prepare_report-in-Done.ensures c.args.now)

pub returns-in-Tick : goal.returns-in-Tick
returns-in-Tick c = handed (sym c.in-Tick.is) (c.prepare_tick.ensures c.args.now c.args.node.now)

pub returns-in-NodeUp : goal.returns-in-NodeUp
returns-in-NodeUp c = handed (sym c.in-NodeUp.is) (c.prepare_node_up.ensures c.args.now c.args.node.now)

pub returns-in-NodeLost : goal.returns-in-NodeLost
returns-in-NodeLost c = handed (ap NodeLost c.as_slice-in-NodeLost.ensures ∙ sym c.in-NodeLost.is) (c.prepare_node_lost.ensures c.args.now c.args.node.now)

pub returns-in-Took : goal.returns-in-Took
returns-in-Took c = handed ((λ t. Took c.in-Took.epoch (c.as_slice-in-Took.ensures t) (c.as_slice-in-Took-2.ensures t) (c.as_slice-in-Took-3.ensures t)) ∙ sym c.in-Took.is) (c.prepare_took.ensures c.args.now c.args.node.now)
