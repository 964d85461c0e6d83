use Rattle.std.proofs.Common.{◌<◌, length, subst, sym}
use Rattle.qm_chest.proofs.SiteOpened.{first_live}
use Rattle.qm_serving.proofs.Opened.{sound_live}
use Rattle.qm_serving.proofs.site_laws.nodes_begin_live.Goals as goal

pub returns-clause-sound : goal.returns-clause-sound
returns-clause-sound g c disk chest w opened tells starts = (opened.at tells w starts).sound

pub returns-clause-live : goal.returns-clause-live
returns-clause-live g c disk chest w opened tells starts node less =
    first_live (g.D.Disk.meaning.seen disk) w starts.starts node (subst (λ names. node < length names) (sym (opened.names tells w starts)) less)

pub returns-clause-begins : goal.returns-clause-begins
returns-clause-begins g c disk chest w opened stands node less = sound_live g.D.Disk.meaning disk chest opened w stands node less
