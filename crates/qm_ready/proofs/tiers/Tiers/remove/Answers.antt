use Rattle.std.proofs.Common.{length, ap, arith}
use Rattle.qm_match.specs.declared.order.Key.{Key}
use Rattle.qm_ready.specs.Tiers.{Tiered}
use Rattle.qm_ready.specs.declared.moves.TheConstants.{TIER}
use Rattle.qm_ready.proofs.Tiered.{length-laid}
use Rattle.qm_ready.proofs.tiers.Tiers.remove.Goals as goal

pub remove-requires-clause-place : goal.remove-requires-clause-place
remove-requires-clause-place c =
    let seen = ap (λ (t : Tiered Key). length t.list) c.self.view_is in
    omega (arith, seen, c.requires, c.open.ensures.len, length-laid TIER c.self.inside.heads.items c.self.inside.keys.items)
