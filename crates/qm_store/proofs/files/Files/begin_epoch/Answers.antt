use Rattle.qm_store.proofs.Opening.{epoch_begun, epoch_failed, epoch_leaves}
use Rattle.qm_store.proofs.files.Files.begin_epoch.Goals as goal

pub returns-in-Ok-clause-answer : goal.returns-in-Ok-clause-answer
returns-in-Ok-clause-answer g c =
    epoch_begun g.D.Disk.meaning c.args.epoch c.args.node c.args.self.now c.write_master-body.result c.write_master-body.ensures c.append.new.self c.args.disk.now c.append.new.disk _ _ _ _ _ _ tt c.in-Ok.ensures.answer

pub returns-in-Ok-clause-leaves : goal.returns-in-Ok-clause-leaves
returns-in-Ok-clause-leaves g c =
    epoch_leaves g.D.Disk.meaning c.args.epoch c.args.node c.args.self.now c.write_master-body.result c.write_master-body.ensures c.args.disk.now c.append.new.disk c.append.ensures.leaves

pub returns-in-Err-clause-answer : goal.returns-in-Err-clause-answer
returns-in-Err-clause-answer g c =
    epoch_failed g.D.Disk.meaning c.args.epoch c.args.node c.args.self.now c.write_master-body.result c.write_master-body.ensures c.args.self.now c.append.new.self c.args.disk.now c.append.new.disk c.in-Err.fault c.in-Err.ensures.answer

pub returns-in-Err-clause-leaves : goal.returns-in-Err-clause-leaves
returns-in-Err-clause-leaves g c =
    epoch_leaves g.D.Disk.meaning c.args.epoch c.args.node c.args.self.now c.write_master-body.result c.write_master-body.ensures c.args.disk.now c.append.new.disk c.append.ensures.leaves
