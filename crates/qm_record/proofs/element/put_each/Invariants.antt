use Rattle.std.proofs.Common.{take}
use Rattle.qm_record.proofs.Loops.{Written}
use Rattle.qm_record.proofs.element.put_each.Given as goal

abbrev pub invariant-loop-item : goal.invariant-loop-item
invariant-loop-item g l =
    Written g.T.Element.fits g.T.Element.spelling l.initial.out.items l.out.items (take l.item-index l.items)
