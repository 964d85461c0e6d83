use Rattle.qm_bytes.proofs.name.+behind_name_bytes.Given as goal

abbrev pub decreases-behind_name_bytes : goal.decreases-behind_name_bytes
decreases-behind_name_bytes l = l.count
