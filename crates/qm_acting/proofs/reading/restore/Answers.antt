use Rattle.std.proofs.Common.{sym, subst}
use Rattle.qm_store.specs.Database.{disk_of as closed_disk, loaded_record}
use Rattle.qm_disk.specs.Disk.{OnlyLooks}
use Rattle.qm_acting.proofs.Judging.{load_told, told_so}
use Rattle.qm_acting.proofs.reading.restore.Goals as goal

pub returns-in-Err-clause-found : goal.returns-in-Err-clause-found
returns-in-Err-clause-found g c = λ tells. load_told (g.D.Disk.meaning.seen (closed_disk c.args.closed)) c.in-Err.failed.1 (c.in-Err.ensures.found tells)

pub returns-in-Err-clause-restored : goal.returns-in-Err-clause-restored
returns-in-Err-clause-restored g c = tt

pub returns-in-Err-clause-looks : goal.returns-in-Err-clause-looks
returns-in-Err-clause-looks g c = c.in-Err.ensures.looks

pub returns-in-Err-clause-faults : goal.returns-in-Err-clause-faults
returns-in-Err-clause-faults g c = c.in-Err.ensures.faults

pub give_up-requires : goal.give_up-requires
give_up-requires g c = c.in-Err-restore.ensures.judged

pub returns-in-Ok-restore-clause-found : goal.returns-in-Ok-restore-clause-found
returns-in-Ok-restore-clause-found g c = c.in-Ok.ensures.found

pub returns-in-Ok-restore-clause-restored : goal.returns-in-Ok-restore-clause-restored
returns-in-Ok-restore-clause-restored g c = record { file = c.in-Ok-restore.ensures.stands; at_rest = c.in-Ok.ensures.at_rest }

pub returns-in-Ok-restore-clause-looks : goal.returns-in-Ok-restore-clause-looks
returns-in-Ok-restore-clause-looks g c = c.in-Ok.ensures.looks

pub returns-in-Ok-restore-clause-faults : goal.returns-in-Ok-restore-clause-faults
returns-in-Ok-restore-clause-faults g c = c.in-Ok.ensures.faults

pub returns-in-Err-restore-clause-found : goal.returns-in-Err-restore-clause-found
returns-in-Err-restore-clause-found g c = λ tells.
    told_so (g.D.Disk.meaning.seen (closed_disk c.args.closed)) (loaded_record c.in-Ok.loaded) c.in-Err-restore.fault c.give_up.result.1
    (c.in-Ok.ensures.found tells) c.in-Err-restore.ensures.judged c.give_up.ensures.told

pub returns-in-Err-restore-clause-restored : goal.returns-in-Err-restore-clause-restored
returns-in-Err-restore-clause-restored g c = tt

pub returns-in-Err-restore-clause-looks : goal.returns-in-Err-restore-clause-looks
returns-in-Err-restore-clause-looks g c =
    subst (λ d. OnlyLooks g.D.Disk.meaning (closed_disk c.args.closed) d) (sym c.give_up.ensures.disk) c.in-Ok.ensures.looks
