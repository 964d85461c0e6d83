use Rattle.qm_tables.specs.Boxed.{contents}
use Rattle.qm_scan.proofs.Behind.{behind_number, from_number}
use Rattle.qm_scan.proofs.places.place_behind_number.Goals as goal

pub returns-in-Ok-clause-behind : goal.returns-in-Ok-clause-behind
returns-in-Ok-clause-behind c = λ p. behind_number (contents c.args.entries.now) c.args.number p c.in-Ok.place c.in-Ok.ensures

pub returns-in-Err-clause-behind : goal.returns-in-Err-clause-behind
returns-in-Err-clause-behind c = λ p. from_number (contents c.args.entries.now) c.args.number p c.in-Err.place c.in-Err.ensures
