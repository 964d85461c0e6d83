use Rattle.std.proofs.Common.{◌≡◌, ◌∙◌, ℕ, Bool, map, filter, sym, ap, subst}
use Rattle.std.specs.List.{list_any}
use Rattle.std.specs.List.Sorted.{IsNonDecreasing}
use Rattle.std.proofs.lemmas.List.Sorted.{IsNonDecreasingBy-from_sort, list_any-IsPermutation}
use Rattle.qm_model.specs.Common.{duty_of, by_run, is_run_on}
use Rattle.qm_image.specs.Image.{system_of}
use Rattle.qm_view.proofs.Works.{works_there, same_duties}
use Rattle.qm_view.proofs.telling.duties.Goals as goal

pub duties_of_runs-requires-clause-works : goal.duties_of_runs-requires-clause-works
unfolding system_of
duties_of_runs-requires-clause-works c = works_there (system_of c.args.image.now) c.args.node.now c.runs.result.now c.requires.sound (c.runs.ensures c.args.node.now)

pub duties_of_runs-requires-clause-rising : goal.duties_of_runs-requires-clause-rising
duties_of_runs-requires-clause-rising c =
    subst IsNonDecreasing (sym c.deref.ensures.value) (IsNonDecreasingBy-from_sort (λ n. n) c.sort_unstable.new.self.items c.sort_unstable.ensures.sorted)

pub returns : goal.returns
unfolding system_of
returns c =
    let s = system_of c.args.image.now in
    let same : (p : ℕ → Bool) → list_any p c.deref.result.now ≡ list_any p c.args.known.now = λ p.
    ap (list_any p) c.deref.ensures.value
    ∙ sym (list_any-IsPermutation p c.in_ok-rising.rising.items c.sort_unstable.new.self.items c.sort_unstable.ensures.permutation)
    ∙ ap (list_any p) c.in_ok-rising.ensures.items in
    c.in_ok-duties.ensures
    ∙ ap (map (duty_of s c.deref.result.now)) (c.runs.ensures c.args.node.now)
    ∙ same_duties s c.args.known.now c.deref.result.now same (by_run (filter (is_run_on c.args.node.now) s.entries))
