use Rattle.std.proofs.Common.{◌≡◌, rules, is_lt}
use Rattle.std.proofs.lemmas.Fn.{always_returns_same}
use Rattle.qm_match.specs.Keys.{comes_before}
use Rattle.qm_ready.proofs.Orders.{before-weak}
use Rattle.qm_ready.proofs.sorting.sort.Goals as goal

pub returns-clause-sorted : goal.returns-clause-sorted
returns-clause-sorted c =
    c.sort_unstable_by.ensures.sorted (comes_before c.args.schedule) (before-weak c.args.schedule) (always_returns_same _ (λ a r. is_lt r ≡ comes_before c.args.schedule a.0.now a.1.0.now) _ (λ a r f called. search rules))
