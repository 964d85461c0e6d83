use Rattle.std.proofs.Common.{◌≡◌, ◌∙◌, ℕ, ◌*◌, List, length, insert, remove, sym, ap, arith}
use Rattle.qm_match.specs.declared.order.Key.{Key}
use Rattle.qm_ready.specs.Tiers.{laid}
use Rattle.qm_ready.specs.declared.moves.TheConstants.{TIER}
use Rattle.qm_ready.proofs.Tiered.{take_behind, hole_behind, emptied, length-laid}
use Rattle.qm_ready.proofs.tiers.remove.Goals as goal

pub returns-then-ends-place-clause-list : goal.returns-then-ends-place-clause-list
returns-then-ends-place-clause-list c =
    ap (laid TIER c.args.heads.now.items) c.remove.ensures.items
    ∙ take_behind TIER c.args.heads.now.items c.args.keys.now.items c.args.place (omega (arith, c.args.heads.now.ok)) c.requires.place

pub returns-clause-list : goal.returns-clause-list
returns-clause-list c =
    let hs : List ℕ = c.args.heads.now.items in
    let xs : List Key = c.args.keys.now.items in
    let ends : ℕ = c.len-ends.result * 512 in
    let is : ends ≡ length hs * 512 = omega (arith, c.args.heads.now.ok) in
    let new : List Key = laid TIER c.pass_back.new.heads.items c.pass_back.new.keys.items in
    let whole : insert new c.args.place c.pass_back.result ≡ laid TIER hs xs =
    c.pass_back.ensures.moved
    ∙ ap (λ (l : List Key). insert (laid TIER hs l) ends c.remove-first.result) c.remove-first.ensures.items
    ∙ ap (λ (x : Key). insert (laid TIER hs (remove xs ends)) ends x) c.remove-first.ensures.value
    ∙ hole_behind TIER hs xs ends c.remove-first.result (omega arith) (omega (arith, c.requires.some)) in
    sym (emptied new c.args.place c.pass_back.result (omega (arith, length-laid TIER c.pass_back.new.heads.items c.pass_back.new.keys.items, c.pass_back.ensures.len, c.remove-first.ensures.len, c.remove-first.new.self.ok, c.args.keys.now.ok, c.requires.some)))
    ∙ ap (λ (l : List Key). remove l c.args.place) whole
