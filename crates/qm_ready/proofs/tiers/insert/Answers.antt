use Rattle.std.proofs.Common.{◌≡◌, ◌∙◌, ℕ, ◌*◌, List, length, ap, arith}
use Rattle.qm_match.specs.declared.order.Key.{Key}
use Rattle.qm_ready.specs.Tiers.{laid}
use Rattle.qm_ready.specs.declared.moves.TheConstants.{TIER}
use Rattle.qm_ready.proofs.Tiered.{put_behind}
use Rattle.qm_ready.proofs.tiers.insert.Goals as goal

pub returns-then-ends-place-clause-list : goal.returns-then-ends-place-clause-list
returns-then-ends-place-clause-list c =
    ap (laid TIER c.args.heads.now.items) c.put.ensures.items
    ∙ put_behind TIER c.args.heads.now.items c.args.keys.now.items c.args.place c.args.key (omega (arith, c.args.heads.now.ok)) c.requires.within

pub returns-clause-list : goal.returns-clause-list
returns-clause-list c =
    let hs : List ℕ = c.pass_on-last.new.heads.items in
    let xs : List Key = c.pass_on-last.new.keys.items in
    let is : c.len-ends.result * 512 ≡ length c.args.heads.now.items * 512 = omega (arith, c.args.heads.now.ok) in
    let ends : c.len-ends.result * 512 ≡ length hs * 512 = omega (arith, is, c.pass_on-last.ensures.tiers) in
    ap (laid TIER hs) c.put-2.ensures.items
    ∙ put_behind TIER hs xs (c.len-ends.result * 512) c.pass_on-last.result (omega (arith, ends)) (omega (arith, ends, c.pass_on-last.ensures.tiered.full))
    ∙ c.pass_on-last.ensures.moved
