use Rattle.qm_bytes.proofs.number.+low_bytes_up_to.Given as goal

abbrev pub decreases-low_bytes_up_to : goal.decreases-low_bytes_up_to
decreases-low_bytes_up_to l = l.count
