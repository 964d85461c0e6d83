use Rattle.qm_record.proofs.request.put_fields.Goals as goal

pub returns-in-Took-clause-ok : goal.returns-in-Took-clause-ok
returns-in-Took-clause-ok c = rw c.in-Took.is c.put_took.ensures.ok
