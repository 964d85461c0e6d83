use Rattle.qm_bytes.proofs.Names.{one_more}
use Rattle.qm_bytes.proofs.name.+behind_name_bytes.Goals as goal

pub returns-clause-value : goal.returns-clause-value
returns-clause-value t c =
    one_more c.args.count _ c.args.bytes.now c.in_ok-rest.rest.now c.in_ok-behind.behind.now c.if-count-eq0.false c.in_ok-rest.ensures.split c.in_ok-rest.ensures.value c.in_ok-behind.ensures.value
