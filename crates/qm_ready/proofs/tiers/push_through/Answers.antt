use Rattle.std.proofs.Common.{◌≡◌, ◌≤◌, ◌∙◌, ℕ, ◌+◌, ◌-◌, ◌*◌, List, length, insert, sym, ap, arith, rules}
use Rattle.qm_match.specs.declared.order.Key.{Key}
use Rattle.qm_ready.specs.declared.moves.TheConstants.{TIER}
use Rattle.qm_ready.proofs.Tiered.{run_behind}
use Rattle.qm_ready.proofs.tiers.push_through.Goals as goal

pub returns-then-ends-from : goal.returns-then-ends-from
returns-then-ends-from c =
    let hs : List ℕ = c.args.heads.now.items in
    let xs : List Key = c.args.keys.now.items in
    let ys : List Key = c.push_run.new.keys.items in
    let to : c.args.from + (c.args.to - c.args.from) ≡ c.args.to = omega (arith, c.requires.order) in
    let low : length hs * 512 ≤ c.args.from = omega (arith, c.args.heads.now.ok) in
    let is : insert ys c.args.to c.push_run.result ≡ insert xs c.args.from c.args.key = ap (λ (i : ℕ). insert ys i c.push_run.result) (sym to) ∙ c.push_run.ensures.moved in
    record {
      moved =
          run_behind TIER hs c.args.from c.args.to xs ys c.args.key c.push_run.result low (omega (arith, low, c.requires.order)) (omega (arith, c.requires.order, c.requires.within))
          (omega (arith, c.requires.within, c.push_run.ensures.len)) is;
      tiered = search rules;
      tiers = search rules;
      len = search rules;
      capacity = search rules;
      heads_capacity = search rules;
    }

pub returns : goal.returns
returns c =
    let hs : List ℕ = c.pass_on-carry.new.heads.items in
    let xs : List Key = c.pass_on-carry.new.keys.items in
    let ys : List Key = c.push_run-2.new.keys.items in
    let ends : ℕ = c.len-ends.result * 512 in
    let low : length hs * 512 ≤ ends = omega (arith, c.args.heads.now.ok, c.pass_on-carry.ensures.tiers) in
    let to : ends + (c.args.to - ends) ≡ c.args.to = omega arith in
    let is : insert ys c.args.to c.push_run-2.result ≡ insert xs ends c.pass_on-carry.result = ap (λ (i : ℕ). insert ys i c.push_run-2.result) (sym to) ∙ c.push_run-2.ensures.moved in
    record {
      moved =
          run_behind TIER hs ends c.args.to xs ys c.pass_on-carry.result c.push_run-2.result low (omega arith) (omega (arith, c.requires.within, c.pass_on-carry.ensures.len))
          (omega (arith, c.requires.within, c.pass_on-carry.ensures.len, c.push_run-2.ensures.len)) is
          ∙ c.pass_on-carry.ensures.moved;
      tiered = search rules;
      tiers = search rules;
      len = search rules;
      capacity = search rules;
      heads_capacity = search rules;
    }
