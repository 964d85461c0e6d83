use Rattle.qm_store.specs.MasterRecords.{state_of}
use Rattle.qm_store.proofs.Masters.{next_said}
use Rattle.qm_store.proofs.master.state.read_next.Goals as goal

pub returns-in-Some : goal.returns-in-Some
returns-in-Some c = next_said (state_of c.args.says) c.args.body.now c.in-Some.said c.next_state.result c.requires c.in-Some.ensures.spelled c.in-Some.ensures.wide c.next_state.ensures
