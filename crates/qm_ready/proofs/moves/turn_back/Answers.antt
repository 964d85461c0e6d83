use Rattle.std.proofs.Common.{◌≡◌, ◌∙◌, ℕ, ◌+◌, ◌*◌, List, get_or, insert, set, ap, subst, rules}
use Rattle.qm_match.specs.declared.order.Key.{Key}
use Rattle.qm_ready.specs.Tiers.{IsInFront, laid}
use Rattle.qm_ready.specs.declared.moves.TheConstants.{TIER}
use Rattle.qm_ready.proofs.Tiered.{tier_back}
use Rattle.qm_ready.proofs.moves.turn_back.Goals as goal

pub returns : goal.returns
returns c =
    let j : ℕ = c.args.tier in
    let h : ℕ = c.behind.result in
    let hs : List ℕ = c.args.heads.now.items in
    let xs : List Key = c.args.keys.now.items in
    let out : Key = c.exchange.result in
    let slot : j * TIER + c.head_of-head.result ≡ j * TIER + get_or hs j 0 = ap (λ (i : ℕ). j * TIER + i) c.head_of-head.ensures in
    record {
      moved =
          ap (λ (l : List Key). insert (laid TIER (set hs j h) l) (j * TIER) out) (c.exchange.ensures.items ∙ ap (λ (i : ℕ). set xs i c.args.key) slot)
          ∙ ap (λ (x : Key). insert (laid TIER (set hs j h) (set xs (j * TIER + get_or hs j 0) c.args.key)) (j * TIER) x) (c.exchange.ensures.out out ∙ ap (λ (i : ℕ). get_or xs i out) slot)
          ∙ tier_back TIER hs j h xs c.args.key out c.requires.within c.requires.tiered.within c.behind.ensures.within (subst (λ (i : ℕ). IsInFront TIER h i) c.head_of-head.ensures c.behind.ensures.front) c.requires.tiered.full;
      tiered = search rules;
      tiers = search rules;
      len = search rules;
      capacity = search rules;
      heads_capacity = search rules;
    }
