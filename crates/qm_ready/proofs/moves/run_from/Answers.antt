use Rattle.std.proofs.Common.{◌≡◌, ℕ, ◌+◌, ◌*◌, ◌/◌, ◌%◌, subst, arith}
use Rattle.qm_match.specs.declared.order.Key.{Key}
use Rattle.qm_ready.specs.Tiers.{AreSlots}
use Rattle.qm_ready.specs.declared.moves.TheConstants.{TIER}
use Rattle.qm_ready.proofs.Tiered.{slots_on}
use Rattle.qm_ready.proofs.moves.run_from.Goals as goal

pub returns-clause-slots : goal.returns-clause-slots
returns-clause-slots c =
    let place : ℕ = c.args.from in
    let whole : place / 512 * 512 + place % 512 ≡ place = omega arith in
    let slot : ℕ = c.in_ring-slot.result in
    let count : ℕ = c.min.result in
    subst (λ (p : ℕ). AreSlots Key TIER c.args.heads.now p (place / 512 * 512 + slot) count) whole
    (slots_on TIER c.args.heads.now (place / 512) (place % 512) slot count (omega (arith, c.requires.order, c.requires.within)) c.requires.tiered c.in_ring-slot.ensures (omega arith) (omega arith))
