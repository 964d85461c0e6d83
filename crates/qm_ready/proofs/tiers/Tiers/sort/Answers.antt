use Rattle.std.proofs.Common.{◌∙◌, List, sym, ap, IsPermutation}
use Rattle.std.proofs.lemmas.List.Sorted.{IsPermutation-trans}
use Rattle.qm_match.specs.declared.order.Key.{Key}
use Rattle.qm_ready.specs.Rows.{HasNumbersOnce, key_numbered}
use Rattle.qm_ready.specs.Tiers.{laid}
use Rattle.qm_ready.specs.declared.moves.TheConstants.{TIER}
use Rattle.qm_ready.proofs.Sorted.{row_sorted, numbers_permuted}
use Rattle.qm_ready.proofs.Tiered.{laid_flat, laid_permutes, length-laid}
use Rattle.qm_ready.proofs.tiers.Tiers.sort.Goals as goal

pub returns-clause-in_order : goal.returns-clause-in_order
returns-clause-in_order c =
    let xs : List Key = laid TIER c.self.inside.heads.items c.self.inside.keys.items in
    let ys : List Key = c.sort.new.keys.items in
    let permutation : IsPermutation xs ys = IsPermutation-trans xs c.self.inside.keys.items ys (laid_permutes TIER c.self.inside.heads.items c.self.inside.keys.items) c.sort.ensures.permutation in
    let once : HasNumbersOnce xs = rw (← c.self.view_is) at c.requires in
    rw (laid_flat TIER c.flatten.new.heads.items ys c.flatten.ensures.flat) (row_sorted xs ys once permutation c.args.schedule c.sort.ensures.sorted)

pub returns-clause-same : goal.returns-clause-same
returns-clause-same c =
    let xs : List Key = laid TIER c.self.inside.heads.items c.self.inside.keys.items in
    let ys : List Key = c.sort.new.keys.items in
    let permutation : IsPermutation xs ys = IsPermutation-trans xs c.self.inside.keys.items ys (laid_permutes TIER c.self.inside.heads.items c.self.inside.keys.items) c.sort.ensures.permutation in
    let once : HasNumbersOnce xs = rw (← c.self.view_is) at c.requires in
    rw (← c.self.view_is) (λ number. ap (key_numbered number) (laid_flat TIER c.flatten.new.heads.items ys c.flatten.ensures.flat) ∙ numbers_permuted xs ys once permutation number)

pub returns-clause-len : goal.returns-clause-len
returns-clause-len c =
    rw (← c.self.view_is)
    (length-laid TIER c.flatten.new.heads.items c.sort.new.keys.items ∙ c.sort.ensures.len ∙ sym (length-laid TIER c.self.inside.heads.items c.self.inside.keys.items))
