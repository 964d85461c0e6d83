use Rattle.std.proofs.Common.{subst}
use Rattle.qm_chest.specs.Checking.{checked_standing}
use Rattle.qm_history.specs.Start.{Starts}
use Rattle.qm_chest.proofs.Since.{stands_first}
use Rattle.qm_chest.proofs.noting.chests_begin_without_notes.Goals as goal

pub returns : goal.returns
returns g c = λ checked chest w begins counted starts.
    let m = g.D.Disk.meaning in
    let r = (checked_standing checked).recorded in
    stands_first c.site_files_are_accepted.ensures m g.met.D.Disk.only_now r.says.cap w chest begins.turns
    (λ tells. begins.at tells w (subst (λ disk. Starts (m.seen disk) w) begins.disk (starts tells).starts)) (λ tells. (starts tells).starts) (λ tells. (starts tells).early) counted
