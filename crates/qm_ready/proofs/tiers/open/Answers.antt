use Rattle.std.proofs.Common.{◌≡◌, ◌∙◌, ℕ, ◌+◌, ◌*◌, List, [], ◌∷◌, ◌++◌, length, take, drop, sym, ap, arith}
use Rattle.qm_match.specs.declared.order.Key.{Key}
use Rattle.qm_ready.specs.Tiers.{laid, turned}
use Rattle.qm_ready.specs.declared.moves.TheConstants.{TIER}
use Rattle.std.proofs.lemmas.List.{length_push}
use Rattle.qm_ready.proofs.Tiered.{opened}
use Rattle.qm_ready.proofs.tiers.open.Goals as goal

pub returns-clause-list : goal.returns-clause-list
returns-clause-list c =
    let hs : List ℕ = c.pop.new.self.items in
    let xs : List Key = c.args.keys.now.items in
    let h : ℕ = c.in-Some.head in
    let was : c.args.heads.now.items ≡ hs ++ h ∷ [] = c.in-Some.ensures.items in
    let base : c.len-3.result * 512 ≡ length hs * 512 = omega (arith, c.pop.new.self.ok) in
    let size : length xs ≡ length hs * 512 + 512 = omega (arith, ap length was, length_push hs h, c.args.heads.now.ok, c.args.keys.now.ok) in
    ap (laid TIER hs) (c.turn.ensures.items ∙ ap (λ (b : ℕ). take b xs ++ turned h (drop b xs)) base)
    ∙ sym (opened TIER hs h xs size) ∙ ap (λ (l : List ℕ). laid TIER l xs) (sym was)
