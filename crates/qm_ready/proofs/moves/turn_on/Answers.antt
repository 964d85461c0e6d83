use Rattle.std.proofs.Common.{◌∙◌, ℕ, ◌+◌, ◌*◌, List, insert, set, sym, ap, subst, rules}
use Rattle.qm_match.specs.declared.order.Key.{Key}
use Rattle.qm_ready.specs.Tiers.{IsInFront, laid}
use Rattle.qm_ready.specs.declared.moves.TheConstants.{TIER}
use Rattle.qm_ready.proofs.Tiered.{tier_on}
use Rattle.qm_ready.proofs.moves.turn_on.Goals as goal

pub returns : goal.returns
returns c =
    let j : ℕ = c.args.tier in
    let h : ℕ = c.in_front-head.result in
    let hs : List ℕ = c.args.heads.now.items in
    let xs : List Key = c.args.keys.now.items in
    let out : Key = c.exchange.result in
    record {
      moved =
          ap (λ (l : List Key). insert (laid TIER (set hs j h) l) (j * TIER + TIER) out) c.exchange.ensures.items
          ∙ ap (λ (x : Key). insert (laid TIER (set hs j h) (set xs (j * TIER + h) c.args.key)) (j * TIER + TIER) x) (c.exchange.ensures.out out)
          ∙ sym (tier_on TIER hs j h xs c.args.key out c.requires.within c.requires.tiered.within (subst (λ (i : ℕ). IsInFront TIER i h) c.head_of.ensures c.in_front-head.ensures) c.requires.tiered.full);
      tiered = search rules;
      tiers = search rules;
      len = search rules;
      capacity = search rules;
      heads_capacity = search rules;
    }
