use Rattle.qm_base_cases.proofs.tables.ready.first.Given as goal

-- a ledger of its own
abbrev pub ghosts-first_by : goal.ghosts-first_by
ghosts-first_by a = record { name = a.blank.name; parts = a.blank.parts }
