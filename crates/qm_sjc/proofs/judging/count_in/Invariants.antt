use Rattle.std.proofs.Common.{◌≡◌, take}
use Rattle.qm_sjc.specs.Judging.{count_in}
use Rattle.qm_sjc.proofs.judging.count_in.Given as goal

abbrev pub invariant-loop-item : goal.invariant-loop-item
invariant-loop-item l = l.count ≡ count_in l.code (take l.item-index l.items)
