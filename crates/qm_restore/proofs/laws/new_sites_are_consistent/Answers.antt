use Rattle.std.proofs.Common.{refl}
use Rattle.qm_restore.proofs.NewSites.{new_is_consistent, new_of_names}
use Rattle.qm_restore.proofs.laws.new_sites_are_consistent.Goals as goal

pub returns : goal.returns
returns c = record { consistent = new_is_consistent; one = λ node. refl; several = new_of_names }
