use Rattle.std.proofs.Common.{sym}
use Rattle.qm_tables.specs.Boxed.{contents}
use Rattle.qm_tables.proofs.Numbers.{next_behind_it, next_from_there}
use Rattle.qm_tables.proofs.entries.places.place_after.Goals as goal

pub returns-in-Ok : goal.returns-in-Ok
returns-in-Ok c = sym (next_behind_it (contents c.args.boxes.now) c.args.number c.in-Ok.place c.in-Ok.ensures)

pub returns-in-Err : goal.returns-in-Err
returns-in-Err c = sym (next_from_there (contents c.args.boxes.now) c.args.number c.in-Err.place c.in-Err.ensures)
