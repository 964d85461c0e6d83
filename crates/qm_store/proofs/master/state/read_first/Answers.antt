use Rattle.qm_store.proofs.Masters.{first_said}
use Rattle.qm_store.proofs.master.state.read_first.Goals as goal

pub returns-in-Some : goal.returns-in-Some
returns-in-Some c = first_said c.args.body.now c.in-Some.said c.first_state.result c.in-Some.ensures.spelled c.in-Some.ensures.wide c.first_state.ensures
