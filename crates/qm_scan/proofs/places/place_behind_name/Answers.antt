use Rattle.qm_scan.proofs.Behind.{behind_name, from_name}
use Rattle.qm_scan.proofs.places.place_behind_name.Goals as goal

pub returns-in-Ok-clause-behind : goal.returns-in-Ok-clause-behind
returns-in-Ok-clause-behind c = λ p. behind_name c.args.queues.now c.args.name.now p c.in-Ok.place c.in-Ok.ensures

pub returns-in-Err-clause-behind : goal.returns-in-Err-clause-behind
returns-in-Err-clause-behind c = λ p. from_name c.args.queues.now c.args.name.now p c.in-Err.place c.in-Err.ensures
