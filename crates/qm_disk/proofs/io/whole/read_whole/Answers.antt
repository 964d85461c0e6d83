use Rattle.std.proofs.Common.{rules}
use Rattle.qm_disk.proofs.BytesLemmas.{LosesAtMost-next}
use Rattle.qm_disk.proofs.io.whole.read_whole.Goals as goal

pub returns-then-count-room-clause-lost : goal.returns-then-count-room-clause-lost
returns-then-count-room-clause-lost g c =
    LosesAtMost-next _ _ _ _ c.loop-bytes.bytes.items c.read.new.into c.in_ok-count.count c.loop-bytes.invariant.2 (search rules) (search rules) (search rules)
