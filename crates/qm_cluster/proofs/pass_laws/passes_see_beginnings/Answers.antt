use Rattle.qm_cluster.proofs.Joins.{has_seen, have_seen, has_all, one_more}
use Rattle.qm_cluster.proofs.pass_laws.passes_see_beginnings.Goals as goal

pub returns-clause-first : goal.returns-clause-first
returns-clause-first c = has_seen

pub returns-clause-others : goal.returns-clause-others
returns-clause-others c = have_seen

pub returns-clause-own : goal.returns-clause-own
returns-clause-own c = has_all

pub returns-clause-one_more : goal.returns-clause-one_more
returns-clause-one_more c = one_more
