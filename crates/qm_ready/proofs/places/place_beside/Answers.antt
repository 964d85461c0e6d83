use Rattle.qm_ready.proofs.Replacing.{beside_before, beside_behind}
use Rattle.std.proofs.Common.{arith}
use Rattle.qm_ready.proofs.places.place_beside.Goals as goal

pub returns-then-place-all-clause-stands : goal.returns-then-place-all-clause-stands
returns-then-place-all-clause-stands c = beside_before c.args.schedule c.args.keys.now.list c.args.place c.place_of-all.result c.args.key.now c.requires.within c.place_of-all.ensures c.if-place-all.true

pub returns-else-place-all-clause-stands : goal.returns-else-place-all-clause-stands
returns-else-place-all-clause-stands c = beside_behind c.args.schedule c.args.keys.now.list c.args.place c.place_of-all.result c.args.key.now c.requires.within c.place_of-all.ensures (omega (arith, c.if-place-all.false))
