use Rattle.std.proofs.Common.{sym, subst}
use Rattle.qm_disk.specs.Disk.{OnlyLooks}
use Rattle.qm_chest.proofs.SiteOpened.{begun_disk, begun_opened}
use Rattle.qm_chest.proofs.chest.Chest.open.Goals as goal

pub returns-in-Ok-clause-opened : goal.returns-in-Ok-clause-opened
returns-in-Ok-clause-opened g c =
    let e = c.in-Ok.ensures in
    begun_opened c.sites_begin_one_world.ensures.begins c.sites_begin_one_world.ensures.one c.site_files_are_consistent.ensures g.D.Disk.meaning c.chests_begin_without_notes.ensures c.args.disk
    c.in-Ok.checked e.checked e.found e.looks e.faults c.begin.result c.begin.ensures.begins c.begin.ensures.early

pub returns-in-Ok-clause-looks : goal.returns-in-Ok-clause-looks
returns-in-Ok-clause-looks g c =
    let e = c.in-Ok.ensures in
    subst (OnlyLooks g.D.Disk.meaning c.args.disk) (sym (begun_disk g.D.Disk.meaning c.in-Ok.checked c.begin.result c.begin.ensures.begins c.begin.ensures.back)) e.looks
