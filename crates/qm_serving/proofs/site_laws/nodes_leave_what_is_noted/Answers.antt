use Rattle.qm_serving.proofs.Left.{nodes_left}
use Rattle.qm_serving.proofs.site_laws.nodes_leave_what_is_noted.Goals as goal

pub returns : goal.returns
returns g c disk chest then names notes opened stood = nodes_left g.D.Disk.meaning disk chest then names notes opened stood
