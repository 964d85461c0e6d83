use Rattle.qm_tables.specs.Settings.{with_settings_and_state}
use Rattle.qm_tables.proofs.queues.table.QueueTable.set.Given as goal

abbrev pub ghost-change : goal.ghost-change
ghost-change a = with_settings_and_state a.change.0.now a.change.1.now
