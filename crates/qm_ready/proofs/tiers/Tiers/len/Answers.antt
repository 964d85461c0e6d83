use Rattle.std.proofs.Common.{length, ap, arith}
use Rattle.qm_match.specs.declared.order.Key.{Key}
use Rattle.qm_ready.specs.Tiers.{Tiered}
use Rattle.qm_ready.specs.declared.moves.TheConstants.{TIER}
use Rattle.qm_ready.proofs.Tiered.{length-laid}
use Rattle.qm_ready.proofs.tiers.Tiers.len.Goals as goal

pub returns-clause-len : goal.returns-clause-len
returns-clause-len c =
    let seen = ap (λ (t : Tiered Key). length t.list) c.self.view_is in
    omega (arith, seen, length-laid TIER c.self.inside.heads.items c.self.inside.keys.items, c.self.inside.keys.ok)
