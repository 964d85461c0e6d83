use Rattle.qm_ready.proofs.Tiered.{part_on}
use Rattle.qm_ready.proofs.runs.push_part.Goals as goal

pub returns-clause-moved : goal.returns-clause-moved
returns-clause-moved c = part_on c.args.keys.now c.push_in.new.run c.args.place c.args.count c.args.key c.push_in.result c.requires c.push_in.ensures.len c.push_in.ensures.moved
