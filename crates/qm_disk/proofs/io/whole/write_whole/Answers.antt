use Rattle.std.proofs.Common.{rules}
use Rattle.std.proofs.lemmas.List.{take_rest}
use Rattle.qm_disk.proofs.BytesLemmas.{Appends-next}
use Rattle.qm_disk.proofs.io.whole.write_whole.Goals as goal

pub loop-at-preserved : goal.loop-at-preserved
loop-at-preserved g c =
    let next = rw take_rest at c.in_ok-count.ensures.appended in
    (search rules, Appends-next _ _ _ c.loop-at.at c.in_ok-count.count c.args.bytes.now c.loop-at.invariant.1 next, search rules, search rules)
