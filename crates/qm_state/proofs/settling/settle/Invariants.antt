use Rattle.qm_state.proofs.settling.settle.Given as goal

-- a ledger of its own
abbrev pub ghosts-settle_by : goal.ghosts-settle_by
ghosts-settle_by a = record { name = a.blank.name; parts = a.blank.parts }
