use Rattle.std.proofs.Common.{◌≡◌, ◌∙◌, ℕ, List, get_or, Some, sym, ap, arith}
use Rattle.qm_match.specs.declared.order.Key.{Key}
use Rattle.qm_ready.specs.Tiers.{laid}
use Rattle.qm_ready.specs.declared.moves.TheConstants.{TIER}
use Rattle.qm_ready.proofs.Tiered.{length-laid, slice_get_at, slice_get_past}
use Rattle.qm_ready.proofs.tiers.Tiers.get.Goals as goal

pub returns-then-len-place : goal.returns-then-len-place
returns-then-len-place c =
    rw (← c.self.view_is)
    (sym (slice_get_past (laid TIER c.self.inside.heads.items c.self.inside.keys.items) c.args.place (omega (arith, length-laid TIER c.self.inside.heads.items c.self.inside.keys.items, c.self.inside.keys.ok))))

pub returns : goal.returns
returns c =
    let hs : List ℕ = c.self.inside.heads.items in
    let xs : List Key = c.self.inside.keys.items in
    let out : Key = c.index.result.now in
    let reads : get_or (laid TIER hs xs) c.args.place out ≡ get_or xs c.slot.result out = rw (c.deref.ensures.value, c.deref-2.ensures.value) at (c.slot.ensures.reads out) in
    rw (← c.self.view_is)
    (ap (λ (k : Key). Some k) (c.index.ensures ∙ sym reads)
    ∙ sym (slice_get_at (laid TIER hs xs) c.args.place out (omega (arith, c.if-len-place.false, length-laid TIER hs xs, c.self.inside.keys.ok))))
