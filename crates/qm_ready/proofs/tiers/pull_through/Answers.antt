use Rattle.std.proofs.Common.{◌≡◌, ◌≤◌, ◌∙◌, ℕ, ◌+◌, ◌-◌, ◌*◌, List, length, insert, ap, arith, rules}
use Rattle.qm_match.specs.declared.order.Key.{Key}
use Rattle.qm_ready.specs.declared.moves.TheConstants.{TIER}
use Rattle.qm_ready.proofs.Tiered.{run_behind}
use Rattle.qm_ready.proofs.tiers.pull_through.Goals as goal

pub returns-then-ends-to : goal.returns-then-ends-to
returns-then-ends-to c =
    let hs : List ℕ = c.args.heads.now.items in
    let xs : List Key = c.args.keys.now.items in
    let ys : List Key = c.pull_run.new.keys.items in
    let from : c.args.to + (c.args.from - c.args.to) ≡ c.args.from = omega (arith, c.requires.order) in
    let low : length hs * 512 ≤ c.args.to = omega (arith, c.args.heads.now.ok) in
    let is : insert ys c.args.to c.pull_run.result ≡ insert xs c.args.from c.args.key = c.pull_run.ensures.moved ∙ ap (λ (i : ℕ). insert xs i c.args.key) from in
    record {
      moved =
          run_behind TIER hs c.args.from c.args.to xs ys c.args.key c.pull_run.result (omega (arith, low, c.requires.order)) low c.requires.within
          (omega (arith, c.requires.order, c.requires.within, c.pull_run.ensures.len)) is;
      tiered = search rules;
      tiers = search rules;
      len = search rules;
      capacity = search rules;
      heads_capacity = search rules;
    }

pub returns : goal.returns
returns c =
    let hs : List ℕ = c.args.heads.now.items in
    let xs : List Key = c.args.keys.now.items in
    let ys : List Key = c.pull_run-carry.new.keys.items in
    let ends : ℕ = c.len-ends.result * 512 in
    let low : length hs * 512 ≤ ends = omega (arith, c.args.heads.now.ok) in
    let from : ends + (c.args.from - ends) ≡ c.args.from = omega arith in
    let is : insert ys ends c.pull_run-carry.result ≡ insert xs c.args.from c.args.key = c.pull_run-carry.ensures.moved ∙ ap (λ (i : ℕ). insert xs i c.args.key) from in
    record {
      moved =
          c.pass_back-2.ensures.moved
          ∙ run_behind TIER hs c.args.from ends xs ys c.args.key c.pull_run-carry.result (omega (arith, low)) low c.requires.within
          (omega (arith, c.requires.within, c.pull_run-carry.ensures.len)) is;
      tiered = search rules;
      tiers = search rules;
      len = search rules;
      capacity = search rules;
      heads_capacity = search rules;
    }
