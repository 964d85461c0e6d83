use Rattle.qm_serving.proofs.Opened.{begins_behind}
use Rattle.qm_serving.proofs.site_laws.openings_keep_worlds.Goals as goal

pub returns : goal.returns
returns g c disk chest w opened may = begins_behind g.D.Disk.meaning disk chest opened w may
