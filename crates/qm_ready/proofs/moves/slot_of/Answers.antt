use Rattle.std.proofs.Common.{◌≡◌, ℕ, ◌+◌, ◌*◌, ◌/◌, ◌%◌, subst, arith}
use Rattle.qm_match.specs.declared.order.Key.{Key}
use Rattle.qm_ready.specs.Tiers.{IsSlot}
use Rattle.qm_ready.specs.declared.moves.TheConstants.{TIER}
use Rattle.qm_ready.proofs.Tiered as tiered
use Rattle.qm_ready.proofs.moves.slot_of.Goals as goal

pub returns : goal.returns
returns c =
    let place : ℕ = c.args.place in
    let whole : place / 512 * 512 + place % 512 ≡ place = omega arith in
    subst (λ (p : ℕ). IsSlot Key TIER c.args.heads.now p (place / 512 * 512 + c.in_ring.result)) whole
    (tiered.slot_of TIER c.args.heads.now (place / 512) (place % 512) c.in_ring.result (omega arith) (omega arith) c.requires.tiered.within c.in_ring.ensures)
