use Rattle.std.proofs.Common.{List, arith}
use Rattle.qm_match.specs.declared.order.Key.{Key}
use Rattle.qm_ready.specs.Tiers.{laid}
use Rattle.qm_ready.specs.declared.moves.TheConstants.{TIER}
use Rattle.qm_ready.proofs.Tiered.{went_on, went_back, length-laid}
use Rattle.qm_ready.proofs.tiers.shift.Goals as goal

pub returns-then-to-from-clause-list : goal.returns-then-to-from-clause-list
returns-then-to-from-clause-list c =
    let xs : List Key = laid TIER c.args.heads.now.items c.args.keys.now.items in
    let ys : List Key = laid TIER c.push_through.new.heads.items c.push_through.new.keys.items in
    let was = length-laid TIER c.args.heads.now.items c.args.keys.now.items in
    let is = length-laid TIER c.push_through.new.heads.items c.push_through.new.keys.items in
    went_on xs ys c.args.from c.args.to c.args.key c.push_through.result (omega (arith, was, is, c.push_through.ensures.len)) (omega arith) (omega (arith, was, c.requires.from)) c.push_through.ensures.moved

pub returns-else-to-from-clause-list : goal.returns-else-to-from-clause-list
returns-else-to-from-clause-list c =
    let xs : List Key = laid TIER c.args.heads.now.items c.args.keys.now.items in
    let ys : List Key = laid TIER c.pull_through.new.heads.items c.pull_through.new.keys.items in
    let was = length-laid TIER c.args.heads.now.items c.args.keys.now.items in
    let is = length-laid TIER c.pull_through.new.heads.items c.pull_through.new.keys.items in
    went_back xs ys c.args.from c.args.to c.args.key c.pull_through.result (omega (arith, was, is, c.pull_through.ensures.len)) (omega arith) (omega (arith, was, c.requires.to)) c.pull_through.ensures.moved
