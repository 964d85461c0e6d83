use Rattle.std.proofs.Common.{ℕ, ◌+◌, ◌-◌, ◌/◌, ◌%◌, ◌≤◌, get_or, subst₂, arith}
use Rattle.qm_match.specs.declared.order.Key.{Key}
use Rattle.qm_ready.specs.Tiers.{AreSlots, IsInRing}
use Rattle.qm_ready.specs.declared.moves.TheConstants.{TIER}
use Rattle.qm_ready.proofs.Tiered.{slots_on, ring_less}
use Rattle.qm_ready.proofs.moves.run_to.Goals as goal

pub returns-clause-slots : goal.returns-clause-slots
returns-clause-slots c =
    let last : ℕ = c.args.from - 1 in
    let slot : ℕ = c.in_ring-slot.result in
    let more : ℕ = c.min-count.result in
    let offset : ℕ = last % 512 - more in
    let place : ℕ = slot - more in
    let few : more ≤ last % 512 = omega arith in
    let fewer : more ≤ slot = omega arith in
    let ring : IsInRing TIER (get_or c.args.heads.now (last / 512) 0) offset place =
    ring_less TIER (get_or c.args.heads.now (last / 512) 0) offset place more (omega arith)
    (subst₂ (λ (a b : ℕ). IsInRing TIER (get_or c.args.heads.now (last / 512) 0) a b) (omega (arith, few)) (omega (arith, fewer)) c.in_ring-slot.ensures) in
    subst₂ (λ (p s : ℕ). AreSlots Key TIER c.args.heads.now p s (more + 1)) (omega (arith, few)) (omega (arith, fewer))
    (slots_on TIER c.args.heads.now (last / 512) offset place (more + 1) (omega arith) c.requires.tiered ring (omega arith) (omega arith))
