use Rattle.qm_tables.proofs.timers.table.Timers.retain.Given as goal

-- the same numbers are kept in both lists
abbrev pub ghost-keep_numbers : goal.ghost-keep_numbers
ghost-keep_numbers g a = g.kept
