use Rattle.qm_tables.proofs.queues.table.QueueTable.set_state.Given as goal

abbrev pub ghost-change : goal.ghost-change
ghost-change a = λ q. record q { state = a.change.0.now }
