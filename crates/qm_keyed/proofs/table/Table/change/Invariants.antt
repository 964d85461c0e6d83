use Rattle.qm_keyed.proofs.table.Table.change.Given as goal

abbrev pub ghost-change_at : goal.ghost-change_at
ghost-change_at g a = g.changed
