use Rattle.qm_ready.proofs.Keeping.{least_is}
use Rattle.qm_ready.proofs.row.ReadyRow.first.Goals as goal

pub returns-in-Some-clause-least : goal.returns-in-Some-clause-least
returns-in-Some-clause-least g c = rw (← c.self.view_is) (least_is c.self.inside.schedule c.self.inside.keys.list c.self.invariant.row)
