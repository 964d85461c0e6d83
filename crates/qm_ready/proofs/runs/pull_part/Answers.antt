use Rattle.qm_ready.proofs.Tiered.{part_back}
use Rattle.qm_ready.proofs.runs.pull_part.Goals as goal

pub returns-clause-moved : goal.returns-clause-moved
returns-clause-moved c = part_back c.args.keys.now c.pull_in.new.run c.args.place c.args.count c.args.key c.pull_in.result c.requires c.pull_in.ensures.len c.pull_in.ensures.moved
