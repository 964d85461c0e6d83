use Rattle.std.proofs.Common.{arith}
use Rattle.qm_ready.specs.declared.moves.TheConstants.{TIER}
use Rattle.qm_ready.proofs.Tiered.{reads_behind}
use Rattle.qm_ready.proofs.tiers.slot.Goals as goal

pub returns-else-place-heads-clause-reads : goal.returns-else-place-heads-clause-reads
returns-else-place-heads-clause-reads c = λ d. reads_behind TIER c.args.heads.now c.args.keys.now c.args.place d (omega arith) c.requires.tiered.full
