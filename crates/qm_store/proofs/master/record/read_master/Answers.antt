use Rattle.qm_store.proofs.MasterBytes.{number_first}
use Rattle.qm_store.proofs.master.record.read_master.Goals as goal

pub returns-in-64-clause-spelled : goal.returns-in-64-clause-spelled
returns-in-64-clause-spelled c = number_first c.args.body.now 64 c.number_at.result c.if-body-ne-MASTER_RECORD_BYTES.false c.if-body-ne-VERSION.false c.in-64.is c.number_at.ensures

pub returns-in-65-clause-spelled : goal.returns-in-65-clause-spelled
returns-in-65-clause-spelled c = number_first c.args.body.now 65 c.number_at-in-65.result c.if-body-ne-MASTER_RECORD_BYTES.false c.if-body-ne-VERSION.false c.in-65.is c.number_at-in-65.ensures
