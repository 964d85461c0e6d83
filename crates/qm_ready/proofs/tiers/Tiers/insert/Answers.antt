use Rattle.std.proofs.Common.{length, ap, arith}
use Rattle.qm_match.specs.declared.order.Key.{Key}
use Rattle.qm_ready.specs.Tiers.{Tiered}
use Rattle.qm_ready.specs.declared.moves.TheConstants.{TIER}
use Rattle.qm_ready.proofs.Tiered.{length-laid}
use Rattle.qm_ready.proofs.tiers.Tiers.insert.Goals as goal

pub insert-requires-clause-within : goal.insert-requires-clause-within
insert-requires-clause-within c =
    let seen = ap (λ (t : Tiered Key). length t.list) c.self.view_is in
    omega (arith, seen, c.requires.within, length-laid TIER c.self.inside.heads.items c.self.inside.keys.items)

pub insert-requires-clause-room : goal.insert-requires-clause-room
insert-requires-clause-room c =
    let seen = ap (λ (t : Tiered Key). length t.list) c.self.view_is in
    let capacity = ap (λ (t : Tiered Key). t.capacity) c.self.view_is in
    omega (arith, seen, capacity, c.requires.room, length-laid TIER c.self.inside.heads.items c.self.inside.keys.items)

pub close-requires-clause-room : goal.close-requires-clause-room
close-requires-clause-room c =
    let seen = ap (λ (t : Tiered Key). length t.list) c.self.view_is in
    let capacity = ap (λ (t : Tiered Key). t.capacity) c.self.view_is in
    let same = ap length c.deref.ensures.value in
    omega (arith, seen, capacity, same, c.requires.room, c.insert.ensures.len, c.insert.ensures.heads_capacity, length-laid TIER c.self.inside.heads.items c.self.inside.keys.items)
