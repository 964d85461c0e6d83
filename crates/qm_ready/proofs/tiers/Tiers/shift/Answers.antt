use Rattle.std.proofs.Common.{length, ap, arith}
use Rattle.qm_match.specs.declared.order.Key.{Key}
use Rattle.qm_ready.specs.Tiers.{Tiered}
use Rattle.qm_ready.specs.declared.moves.TheConstants.{TIER}
use Rattle.qm_ready.proofs.Tiered.{length-laid}
use Rattle.qm_ready.proofs.tiers.Tiers.shift.Goals as goal

pub shift-requires-clause-from : goal.shift-requires-clause-from
shift-requires-clause-from c =
    let seen = ap (λ (t : Tiered Key). length t.list) c.self.view_is in
    omega (arith, seen, c.requires.from, length-laid TIER c.self.inside.heads.items c.self.inside.keys.items)

pub shift-requires-clause-to : goal.shift-requires-clause-to
shift-requires-clause-to c =
    let seen = ap (λ (t : Tiered Key). length t.list) c.self.view_is in
    omega (arith, seen, c.requires.to, length-laid TIER c.self.inside.heads.items c.self.inside.keys.items)
