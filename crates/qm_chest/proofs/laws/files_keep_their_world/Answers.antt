use Rattle.qm_chest.proofs.Holding.{world_kept}
use Rattle.qm_chest.proofs.laws.files_keep_their_world.Goals as goal

pub returns : goal.returns
returns g c = λ cap w place disk none holds. world_kept c.site_files_are_accepted.ensures g.D.Disk.meaning cap w place disk none holds
