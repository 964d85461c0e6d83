use Rattle.qm_scan.proofs.Named.{named_there, named_nowhere}
use Rattle.qm_scan.proofs.below.place_named.Goals as goal

pub returns-in-Ok-clause-named : goal.returns-in-Ok-clause-named
returns-in-Ok-clause-named c = λ k q there. named_there c.args.queues.now c.args.name.now k q there c.in-Ok.place c.in-Ok.ensures

pub returns-in-Err-clause-named : goal.returns-in-Err-clause-named
returns-in-Err-clause-named c = λ k q there. named_nowhere c.args.queues.now c.args.name.now k q there c.in-Err.field-0 c.in-Err.ensures
