use Rattle.qm_serving.proofs.Opened.{stands_first}
use Rattle.qm_serving.proofs.site_laws.opened_sites_stand_for_no_notes.Goals as goal

pub returns : goal.returns
returns g c disk chest opened = stands_first g.D.Disk.meaning disk chest opened
